use Rattle.mrp_lot.proofs.LotLaws.{min_multiple-is_least, min_multiple-lt}
use Rattle.mrp_lot.proofs.laws.min_multiple_is_least.Goals as goal

pub returns-clause-least : goal.returns-clause-least
returns-clause-least c = min_multiple-is_least

pub returns-clause-small : goal.returns-clause-small
returns-clause-small c = min_multiple-lt
