use Rattle.mrp_advice.proofs.Coming as proved
use Rattle.mrp_advice.proofs.Planned as planned
use Rattle.mrp_advice.proofs.Sorts as sorts
use Rattle.mrp_advice.proofs.advice_laws.open_orders_come_in.Goals as goal

pub returns-clause-kept : goal.returns-clause-kept
returns-clause-kept c = proved.orders_are_kept

pub returns-clause-sums : goal.returns-clause-sums
returns-clause-sums c = proved.orders_come_in

pub returns-clause-sorts : goal.returns-clause-sorts
returns-clause-sorts c = sorts.orders_are_of_plan

pub returns-clause-plan : goal.returns-clause-plan
returns-clause-plan c = planned.orders_are_planned

pub returns-clause-all_planned : goal.returns-clause-all_planned
returns-clause-all_planned c = planned.orders_are_all_planned
