use Rattle.mrp_advice.proofs.Needing as plain
use Rattle.mrp_advice.proofs.SortNeeds as proved
use Rattle.mrp_advice.proofs.advice_laws.needs_rise.Goals as goal

pub returns-clause-sorts : goal.returns-clause-sorts
returns-clause-sorts c = proved.needs_rise

pub returns-clause-plain : goal.returns-clause-plain
returns-clause-plain c = plain.plain_needs_rise
