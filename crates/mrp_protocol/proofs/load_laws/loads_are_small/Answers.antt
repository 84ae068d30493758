use Rattle.mrp_protocol.proofs.Small as proved
use Rattle.mrp_protocol.proofs.load_laws.loads_are_small.Goals as goal

pub returns-clause-once : goal.returns-clause-once
returns-clause-once c = proved.loads_stand_once

pub returns-clause-small : goal.returns-clause-small
returns-clause-small c = proved.loads_are_small
