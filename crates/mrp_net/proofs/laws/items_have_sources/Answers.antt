use Rattle.mrp_net.proofs.Behind as proved
use Rattle.mrp_net.proofs.laws.items_have_sources.Goals as goal

pub returns : goal.returns
returns c = proved.items_have_sources
