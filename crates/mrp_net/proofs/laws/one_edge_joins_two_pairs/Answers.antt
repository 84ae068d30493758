use Rattle.mrp_net.proofs.EdgesOnce as proved
use Rattle.mrp_net.proofs.laws.one_edge_joins_two_pairs.Goals as goal

pub returns-clause-edges : goal.returns-clause-edges
returns-clause-edges c = proved.one_edge_joins_two_pairs

pub returns-clause-demanders : goal.returns-clause-demanders
returns-clause-demanders c = proved.demanders_stand_once
