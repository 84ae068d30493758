use Rattle.mrp_protocol.proofs.Sending as proved
use Rattle.mrp_protocol.proofs.view_laws.loads_are_seen.Goals as goal

pub returns-clause-despatches : goal.returns-clause-despatches
returns-clause-despatches c = proved.despatches_are_seen

pub returns-clause-schedules : goal.returns-clause-schedules
returns-clause-schedules c = proved.schedules_are_seen

pub returns-clause-opening : goal.returns-clause-opening
returns-clause-opening c = proved.schedules_open_after_shipments
