use Rattle.mrp_net.proofs.Local as proved
use Rattle.mrp_net.proofs.laws.crossing_edges_are_sources.Goals as goal

pub returns : goal.returns
returns c = proved.crossing_edges_are_sources
