use Rattle.mrp_validation.proofs.Missing.{missing_told}
use Rattle.mrp_validation.proofs.laws.missing_pairs_are_told.Goals as goal

pub returns : goal.returns
returns c = missing_told
