use Rattle.std.proofs.Common.{◌<◌, subst, sym, length, map}
use Rattle.std.specs.String.{string_bytes}
use Rattle.mrp_master_data.specs.contracts.row_lists.RowLists.{the_view}
use Rattle.mrp_master_data.specs.Table.{Table, most}
use Rattle.mrp_master_data.proofs.Grow.{on_ok, read-pushed_plant}
use Rattle.mrp_master_data.proofs.row_lists.RowLists.add_plant.Goals as goal

pub invariant_of-self : goal.invariant_of-self
invariant_of-self c = (
  read-pushed_plant (the_view c.self.inside) c.args.name.now (map string_bytes c.push_name.new.names.items) c.push_name.result c.self.invariant.0
      c.requires.named
      (subst (λ (N : Table). length N.plants < (most N).plants) (sym c.self.view_is) c.requires.room)
      c.push_name.ensures.names c.push_name.ensures.unchanged,
  c.self.invariant.1,
)

pub returns-clause-rows : goal.returns-clause-rows
returns-clause-rows c =
    on_ok c.push_name.result (read-pushed_plant (the_view c.self.inside) c.args.name.now (map string_bytes c.push_name.new.names.items) c.push_name.result
    c.self.invariant.0 c.requires.named (subst (λ (N : Table). length N.plants < (most N).plants) (sym c.self.view_is) c.requires.room)
    c.push_name.ensures.names c.push_name.ensures.unchanged)
