use Rattle.mrp_lot.proofs.LotLaws.{fixed-is_least, fixed-lt}
use Rattle.mrp_lot.proofs.laws.fixed_is_least.Goals as goal

pub returns-clause-least : goal.returns-clause-least
returns-clause-least c = fixed-is_least

pub returns-clause-small : goal.returns-clause-small
returns-clause-small c = fixed-lt
