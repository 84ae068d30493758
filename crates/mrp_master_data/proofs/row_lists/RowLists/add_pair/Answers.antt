use Rattle.std.proofs.Common.{◌≡◌, ◌∙◌, ◌++◌, ◌∷◌, [], List, ap, sym, subst, false, arith}
use Rattle.std.specs.HashMap.{get}
use Rattle.std.specs.List.{list_any}
use Rattle.mrp_master_data.specs.contracts.row_lists.RowLists.{the_view}
use Rattle.mrp_master_data.specs.declared.rows.PairRow.{PairRow}
use Rattle.mrp_master_data.specs.Growing.{with_pair}
use Rattle.mrp_master_data.specs.Places.{is_at, is_same_place}
use Rattle.mrp_master_data.specs.Table.{IsRead, Table}
use Rattle.mrp_master_data.proofs.Found.{found_more}
use Rattle.mrp_master_data.proofs.Grow.{read-with_pair}
use Rattle.mrp_master_data.proofs.row_lists.RowLists.add_pair.Goals as goal
use Rattle.mrp_master_data.proofs.row_lists.RowLists.add_pair.Goals.{In-Ok}

-- the pairs with the last one
more : (c : In-Ok) → c.push.new.self.items ≡ c.self.inside.pairs.items ++ c.args.row ∷ []
more c = c.in-Ok.ensures.items ∙ ap (λ (rows : List PairRow). rows ++ c.args.row ∷ []) c.reserve.ensures.items

pub returns-clause-table : goal.returns-clause-table
returns-clause-table c =
    ap (λ rows. let N : Table = record (the_view c.self.inside) { pairs = rows } in N) (more c) ∙ ap (λ (N : Table). with_pair N c.args.row) c.self.view_is

pub returns-clause-rows : goal.returns-clause-rows
returns-clause-rows c =
    subst IsRead (sym (returns-clause-table c)) (read-with_pair c.args.self.now c.args.row
    (subst IsRead c.self.view_is c.self.invariant.0) c.requires.row c.requires.room)

pub invariant_of-self-2 : goal.invariant_of-self-2
invariant_of-self-2 c =
    let row = c.args.row in
    let fresh = subst (λ (N : Table). list_any (is_at row.plant.0 row.item.0) N.pairs ≡ false) (sym c.self.view_is) c.requires.fresh in (
      returns-clause-rows c,
      found_more (get is_same_place c.self.inside.pair_places) (get is_same_place c.insert.new.self) c.self.inside.pairs.items c.push.new.self.items row
          (record { 0 = c.len.result })
          c.self.invariant.1 fresh (omega (arith, c.len.ensures, c.self.inside.pairs.ok.0)) (more c) (λ key. c.in_ok-insert.ensures.updates.0 key),
    )
