use Rattle.mrp_net.proofs.Local.{local_edges_are_bills, local_edges_are_whole, local_demanders_are_whole}
use Rattle.mrp_net.proofs.laws.local_edges_are_whole.Goals as goal

pub returns-clause-bills : goal.returns-clause-bills
returns-clause-bills c = local_edges_are_bills

pub returns-clause-edges : goal.returns-clause-edges
returns-clause-edges c = local_edges_are_whole

pub returns-clause-demanders : goal.returns-clause-demanders
returns-clause-demanders c = local_demanders_are_whole
