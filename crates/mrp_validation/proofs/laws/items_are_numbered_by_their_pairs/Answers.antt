use Rattle.mrp_validation.proofs.WrittenTable.{items_numbered}
use Rattle.mrp_validation.proofs.laws.items_are_numbered_by_their_pairs.Goals as goal

pub returns : goal.returns
returns c = λ limits. items_numbered limits
