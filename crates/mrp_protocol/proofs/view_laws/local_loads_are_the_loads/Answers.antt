use Rattle.mrp_protocol.proofs.Promising as proved
use Rattle.mrp_protocol.proofs.view_laws.local_loads_are_the_loads.Goals as goal

pub returns : goal.returns
returns c = proved.local_loads_are_the_loads
