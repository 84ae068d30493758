use Rattle.mrp_advice.proofs.Needing as plain
use Rattle.mrp_advice.proofs.SortNeeds as proved
use Rattle.mrp_advice.proofs.advice_laws.timely_orders_suffice.Goals as goal

pub returns-clause-orders : goal.returns-clause-orders
returns-clause-orders c = proved.timely_orders_suffice

pub returns-clause-plain : goal.returns-clause-plain
returns-clause-plain c = plain.plain_orders_suffice
