use Rattle.mrp_agent.proofs.Network as proved
use Rattle.mrp_agent.proofs.laws.nothing_legal_is_left.Goals as goal

pub returns : goal.returns
returns c = proved.nothing_legal_is_left
