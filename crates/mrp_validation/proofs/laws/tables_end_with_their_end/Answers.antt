use Rattle.mrp_validation.proofs.Ends.{end_is_last}
use Rattle.mrp_validation.proofs.laws.tables_end_with_their_end.Goals as goal

pub returns : goal.returns
returns c = λ limits. end_is_last limits
