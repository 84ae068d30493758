use Rattle.mrp_net.proofs.Needs.{bills_ask_by_the_piece, edges_ask_by_the_piece}
use Rattle.mrp_net.proofs.laws.tables_without_usages.Goals as goal

pub returns-clause-bills : goal.returns-clause-bills
returns-clause-bills c = bills_ask_by_the_piece

pub returns-clause-edges : goal.returns-clause-edges
returns-clause-edges c = edges_ask_by_the_piece
