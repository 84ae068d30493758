use Rattle.std.proofs.Common.{◌∙◌, ap, subst, sym}
use Rattle.mrp_master_data.specs.contracts.row_lists.RowLists.{the_view}
use Rattle.mrp_master_data.specs.Growing.{with_usage}
use Rattle.mrp_master_data.specs.Table.{IsRead, Table}
use Rattle.mrp_master_data.proofs.Grow.{read-with_usage}
use Rattle.mrp_master_data.proofs.row_lists.RowLists.add_usage.Goals as goal

pub returns-clause-table : goal.returns-clause-table
returns-clause-table c =
    ap (λ rows. let N : Table = record (the_view c.self.inside) { usages = rows } in N) c.in_ok-push.ensures.items
    ∙ ap (λ (N : Table). with_usage N c.args.row) c.self.view_is

pub returns-clause-rows : goal.returns-clause-rows
returns-clause-rows c =
    subst IsRead (sym (returns-clause-table c)) (read-with_usage c.args.self.now c.args.row
    (subst IsRead c.self.view_is c.self.invariant.0) c.requires.row c.requires.room)

pub invariant_of-self-2 : goal.invariant_of-self-2
invariant_of-self-2 c = (returns-clause-rows c, c.self.invariant.1)
