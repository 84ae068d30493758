use Rattle.std.proofs.Common.{sym, subst}
use Rattle.mrp_master_data.specs.Table.{IsTable}
use Rattle.mrp_master_data.proofs.Fewer.{table_without}
use Rattle.mrp_master_data.proofs.tables.Tables.drop_bills_and_demands.Goals as goal

pub invariant_of-self : goal.invariant_of-self
invariant_of-self c = subst IsTable (sym c.drop_bills_and_demands.ensures) (table_without c.self.inside.lists c.self.invariant)
