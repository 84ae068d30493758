use Rattle.std.proofs.Common.{◌≡◌, ◌∙◌, sym, ap, length, refl, option_map, unwrap_or, List, Option}
use Rattle.std.specs.List.{slice_get}
use Rattle.std.proofs.lemmas.Option.{slice_get_past, slice_get_read}
use Rattle.mrp_master_data.specs.declared.rows.PairRow.{PairRow}
use Rattle.mrp_master_data.specs.Table.{Table}
use Rattle.mrp_master_data.proofs.row_lists.RowLists.item_of.Goals as goal
use Rattle.mrp_master_data.proofs.row_lists.RowLists.item_of.Goals.{After-deref}

-- the pairs read are those of the table
are_pairs : (c : After-deref) → c.deref.result.now ≡ c.args.self.now.pairs
are_pairs c = c.deref.ensures.value ∙ ap (λ (N : Table). N.pairs) c.self.view_is

pub returns-in-Some : goal.returns-in-Some
returns-in-Some c =
    let rows = c.deref.result.now in
    let at = c.args.pair.0 in
    let found = c.in-Some.ensures.lookup in
    let there = slice_get_read rows (length rows) at c.in-Some.row.now refl found.3.0 found.1 in
    record {
      value =
          sym (ap (λ (o : Option PairRow). unwrap_or (option_map (λ p. p.item.0) o) 0) there)
          ∙ ap (λ (z : List PairRow). unwrap_or (option_map (λ p. p.item.0) (slice_get z at)) 0) (are_pairs (goal.at.returns-in-Some c).After-deref);
    }

pub returns-in-None : goal.returns-in-None
returns-in-None c =
    let rows = c.deref.result.now in
    let at = c.args.pair.0 in
    let past = slice_get_past rows at c.in-None.ensures.lookup.3 in
    record {
      value =
          sym (ap (λ (o : Option PairRow). unwrap_or (option_map (λ p. p.item.0) o) 0) past)
          ∙ ap (λ (z : List PairRow). unwrap_or (option_map (λ p. p.item.0) (slice_get z at)) 0) (are_pairs (goal.at.returns-in-None c).After-deref);
    }
