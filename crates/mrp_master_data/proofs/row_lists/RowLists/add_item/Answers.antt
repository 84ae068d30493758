use Rattle.std.proofs.Common.{◌≡◌, ◌<◌, subst, sym, false, length, map}
use Rattle.std.specs.List.{list_any}
use Rattle.std.specs.Str.{bytes_eq}
use Rattle.std.specs.String.{string_bytes}
use Rattle.mrp_master_data.specs.contracts.row_lists.RowLists.{the_view}
use Rattle.mrp_master_data.specs.Table.{Table, most}
use Rattle.mrp_master_data.proofs.Grow.{on_ok, read-pushed_item}
use Rattle.mrp_master_data.proofs.row_lists.RowLists.add_item.Goals as goal

pub invariant_of-self : goal.invariant_of-self
invariant_of-self c = (
  read-pushed_item (the_view c.self.inside) c.args.name.now (map string_bytes c.push_name.new.names.items) c.push_name.result c.self.invariant.0
      c.requires.named
      (subst (λ (N : Table). length N.items < (most N).pairs) (sym c.self.view_is) c.requires.room)
      (subst (λ (N : Table). list_any (bytes_eq c.args.name.now) N.items ≡ false) (sym c.self.view_is) c.requires.fresh)
      c.push_name.ensures.names c.push_name.ensures.unchanged,
  c.self.invariant.1,
)

pub returns-clause-rows : goal.returns-clause-rows
returns-clause-rows c =
    on_ok c.push_name.result (read-pushed_item (the_view c.self.inside) c.args.name.now (map string_bytes c.push_name.new.names.items) c.push_name.result
    c.self.invariant.0 c.requires.named (subst (λ (N : Table). length N.items < (most N).pairs) (sym c.self.view_is) c.requires.room)
    (subst (λ (N : Table). list_any (bytes_eq c.args.name.now) N.items ≡ false) (sym c.self.view_is) c.requires.fresh)
    c.push_name.ensures.names c.push_name.ensures.unchanged)
