use Rattle.mrp_protocol.proofs.Planned as proved
use Rattle.mrp_protocol.proofs.ready_laws.planned_are_ready.Goals as goal

pub returns : goal.returns
returns c = proved.planned_are_ready
