use Rattle.mrp_netting.proofs.WorkedPairs.{firm_parent_is_planned, firm_component_is_planned, fenced_is_planned, counted_sooner_is_planned, covered_ahead_is_planned}
use Rattle.mrp_netting.proofs.planning_laws.worked_pairs_are_planned.Goals as goal

pub returns-clause-firm_parent : goal.returns-clause-firm_parent
returns-clause-firm_parent c = firm_parent_is_planned

pub returns-clause-firm_component : goal.returns-clause-firm_component
returns-clause-firm_component c = firm_component_is_planned

pub returns-clause-fenced : goal.returns-clause-fenced
returns-clause-fenced c = fenced_is_planned

pub returns-clause-counted_sooner : goal.returns-clause-counted_sooner
returns-clause-counted_sooner c = counted_sooner_is_planned

pub returns-clause-covered_ahead : goal.returns-clause-covered_ahead
returns-clause-covered_ahead c = covered_ahead_is_planned
