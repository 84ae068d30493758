use Rattle.std.proofs.Common.{◌≡◌, ◌<◌, ◌≤◌, ◌+◌, ap, get_or, length, List, ℕ, refl, sym, arith}
use Rattle.std.proofs.lemmas.List.Quantifiers.{position-Some}
use Rattle.mrp_master_data.specs.Growing.{lacks_pair}
use Rattle.mrp_master_data.specs.declared.rows.SourceRow.{SourceRow}
use Rattle.mrp_master_data.specs.Table.{Table}
use Rattle.mrp_validation.specs.Reading.{pair_row_number}
use Rattle.mrp_validation.proofs.Accept.{table_is}
use Rattle.mrp_tables.proofs.Asked.{cut_last, kept_last, lacks_first}
use Rattle.mrp_tables.proofs.TurnCount.{draft_rows-le}
use Rattle.mrp_tables.proofs.Waiting.{above_count, none_waits, waits_at}
use Rattle.mrp_tables.proofs.reading.accept.Goals as goal
use Rattle.mrp_tables.proofs.reading.accept.Goals.{After-sources}

-- a source for a place where there is none
abbrev nothing : SourceRow
nothing = record { pair = record { 0 = 0 }; plant = record { 0 = 0 }; low = 0; high = 0 }

-- the row that is named is that of the source's pair
named_row : (N : Table) (sources : List SourceRow) (plants place row : ℕ) → sources ≡ N.sources → plants ≡ length N.plants
    → row ≡ plants + 1 + (get_or sources place nothing).pair.0 + 1
    → row ≡ pair_row_number N (get_or N.sources place nothing).pair.0
named_row N sources plants place row same count is = omega (arith, ap (λ (ss : List SourceRow). (get_or ss place nothing).pair.0) same, count, is)

-- the source that lacks its pair is one of the table's, and so is its pair
here : (c : After-sources) → c.in-Some.place < length c.args.draft.lists.sources
here c = (position-Some (lacks_pair c.args.draft.lists) c.args.draft.lists.sources c.in-Some.place nothing (sym c.in-Some.ensures.place)).0

one_below : {row count : ℕ} → row ≤ count → row ≤ count + 1
one_below above = omega (arith, above)

pub returns-then-is_cut-clause-exact : goal.returns-then-is_cut-clause-exact
returns-then-is_cut-clause-exact c =
    cut_last c.args.reading c.args.draft.lists _ (none_waits c.args.draft.lists (sym c.in_default.ensures.place)) (sym c.if-is_cut.ensures.exact)
    (ap (λ (n : ℕ). n + 1) c.requires.draft.count)

pub of-requires : goal.of-requires
of-requires c = record { table = table_is c.args.draft.lists c.args.draft.last c.requires.kept (sym c.in_default.ensures.place) }

pub returns-in-Some-clause-exact : goal.returns-in-Some-clause-exact
returns-in-Some-clause-exact c =
    lacks_first c.args.reading c.args.draft.lists _
    (waits_at c.args.draft.lists c.in-Some.place _ nothing (sym c.in-Some.ensures.place)
    (named_row c.args.draft.lists _ _ c.in-Some.place _ c.sources.ensures.value c.plants-above.ensures.value refl))

pub returns-clause-exact : goal.returns-clause-exact
returns-clause-exact c =
    kept_last c.args.reading c.args.draft.lists _ (none_waits c.args.draft.lists (sym c.in_default.ensures.place)) (sym c.if-is_cut.ensures.exact) c.of.ensures.same

pub returns-in-Some-clause-above : goal.returns-in-Some-clause-above
returns-in-Some-clause-above c =
    let named = named_row c.args.draft.lists _ _ c.in-Some.place _ c.sources.ensures.value c.plants-above.ensures.value refl in
    let above = above_count c.args.draft.lists c.in-Some.place _ nothing c.requires.draft.holds.rows (sym c.in-Some.ensures.place) named in
    one_below above

pub overflow_add-row : goal.overflow_add-row
overflow_add-row c = omega (arith, draft_rows-le c.args.draft c.requires.draft)

pub overflow_add-above : goal.overflow_add-above
overflow_add-above c = omega (arith, c.plants-above.ensures.value, c.requires.draft.holds.rows.limits.plants)

pub offset_bounds-sources-place : goal.offset_bounds-sources-place
offset_bounds-sources-place c = omega (arith, here c, c.requires.draft.holds.rows.limits.sources)

pub bounds-sources-place : goal.bounds-sources-place
bounds-sources-place c = rw c.sources.ensures.value (here c)

pub overflow_add-result : goal.overflow_add-result
overflow_add-result c =
    let is = c.requires.draft.holds.rows.sources c.in-Some.place nothing (here (goal.at.overflow_add-result c).After-sources) in
    rw c.sources.ensures.value (omega (
      arith,
      c.plants-above.ensures.value,
      c.requires.draft.holds.rows.limits.plants,
      is.pair,
      c.requires.draft.holds.rows.limits.pairs,
    ))

pub overflow_add-result-in-Some : goal.overflow_add-result-in-Some
overflow_add-result-in-Some c =
    let is = c.requires.draft.holds.rows.sources c.in-Some.place nothing (here (goal.at.overflow_add-result-in-Some c).After-sources) in
    rw c.sources.ensures.value (omega (
      arith,
      c.plants-above.ensures.value,
      c.requires.draft.holds.rows.limits.plants,
      is.pair,
      c.requires.draft.holds.rows.limits.pairs,
    ))
