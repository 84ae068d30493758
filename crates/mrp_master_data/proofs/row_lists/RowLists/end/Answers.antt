use Rattle.mrp_master_data.specs.contracts.row_lists.RowLists.{the_view}
use Rattle.mrp_master_data.proofs.Grow.{read-with_end}
use Rattle.mrp_master_data.proofs.row_lists.RowLists.end.Goals as goal

pub invariant_of-self : goal.invariant_of-self
invariant_of-self c = (read-with_end (the_view c.self.inside) c.self.invariant.0, c.self.invariant.1)
