use Rattle.mrp_advice.proofs.PlanNeeds as proved
use Rattle.mrp_advice.proofs.advice_laws.needed_receipts_are_counted_sooner.Goals as goal

pub returns : goal.returns
returns c = proved.needed_is_counted_sooner
