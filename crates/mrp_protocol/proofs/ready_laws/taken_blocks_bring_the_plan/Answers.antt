use Rattle.mrp_protocol.proofs.Bringing as proved
use Rattle.mrp_protocol.proofs.ready_laws.taken_blocks_bring_the_plan.Goals as goal

pub returns-clause-incoming : goal.returns-clause-incoming
returns-clause-incoming c = proved.despatches_bring_incoming

pub returns-clause-gross : goal.returns-clause-gross
returns-clause-gross c = proved.schedules_bring_gross
