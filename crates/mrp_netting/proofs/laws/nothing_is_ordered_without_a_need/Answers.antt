use Rattle.mrp_netting.proofs.RulesLaws.{nothing_ordered}
use Rattle.mrp_netting.proofs.laws.nothing_is_ordered_without_a_need.Goals as goal

pub returns : goal.returns
returns c = nothing_ordered
