use Rattle.mrp_advice.proofs.PlanNeeds as proved
use Rattle.mrp_advice.proofs.advice_laws.open_orders_are_needed_by_the_plan.Goals as goal

pub returns-clause-receipts : goal.returns-clause-receipts
returns-clause-receipts c = proved.receipts_are_needed

pub returns-clause-others : goal.returns-clause-others
returns-clause-others c = proved.others_are_needed
