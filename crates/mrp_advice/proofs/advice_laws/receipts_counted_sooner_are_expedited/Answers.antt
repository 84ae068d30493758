use Rattle.mrp_advice.proofs.PlanNeeds as planned
use Rattle.mrp_advice.proofs.SortNeeds as proved
use Rattle.mrp_advice.proofs.advice_laws.receipts_counted_sooner_are_expedited.Goals as goal

pub returns-clause-counted : goal.returns-clause-counted
returns-clause-counted c = proved.counted_sooner_is_expedited

pub returns-clause-expedited : goal.returns-clause-expedited
returns-clause-expedited c = planned.expedited_is_counted_sooner
