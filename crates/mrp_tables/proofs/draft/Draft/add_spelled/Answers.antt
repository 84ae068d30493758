use borrow.Author.Rules.{rules}
use Rattle.std.proofs.Common.{◌≡◌, ◌==◌, ◌&&◌, false, position, unwrap_or, ◌∙◌, sym, ap, subst, length, length-append, arith}
use Rattle.std.specs.List.{list_any}
use Rattle.std.specs.Str.{bytes_eq}
use Rattle.std.proofs.lemmas.Grind.{common_steps}
use Rattle.mrp_master_data.proofs.Grow.{length-add_item-le}
use Rattle.mrp_master_data.specs.Table.{Table}
use Rattle.mrp_tables.proofs.NewPair.{fresh_pair, pair_new}
use Rattle.mrp_tables.proofs.draft.Draft.add_spelled.Goals as goal

pub add_pair-requires-clause-fresh : goal.add_pair-requires-clause-fresh
add_pair-requires-clause-fresh c =
    let N = c.args.self.now.lists in
    let name = c.args.spelled.now.item.now in
    let plant = c.args.plant.0 in
    let item = c.in_ok-item.item.0 in
    let table = c.in_ok-item.ensures.table in
    let is = c.in_ok-item.ensures.place ∙ ap (λ (T : Table). unwrap_or (position (bytes_eq name) T.items) 0) table in
    let fresh = fresh_pair N plant name item c.requires.draft.holds.rows c.requires.fits.fresh is in
    subst (λ (T : Table). list_any (λ p. (p.plant.0 == plant) && (p.item.0 == item)) T.pairs ≡ false) (sym table) fresh

pub returns-in_err-item-clause-memory : goal.returns-in_err-item-clause-memory
returns-in_err-item-clause-memory c = search rules

pub returns-in_err-item-clause-table : goal.returns-in_err-item-clause-table
returns-in_err-item-clause-table c = search rules

pub returns-in_err-item-clause-adds : goal.returns-in_err-item-clause-adds
returns-in_err-item-clause-adds c = search rules

pub returns-in_err-add_pair-clause-memory : goal.returns-in_err-add_pair-clause-memory
returns-in_err-add_pair-clause-memory c = search rules

pub returns-in_err-add_pair-clause-table : goal.returns-in_err-add_pair-clause-table
returns-in_err-add_pair-clause-table c = search rules

pub returns-in_err-add_pair-clause-adds : goal.returns-in_err-add_pair-clause-adds
returns-in_err-add_pair-clause-adds c = search rules

pub add_sources-requires-clause-pair : goal.add_sources-requires-clause-pair
add_sources-requires-clause-pair c = rw (c.pairs.ensures.value, c.in_ok-add_pair.ensures.table) (simp length-append (omega arith))

pub add_sources-requires-clause-room : goal.add_sources-requires-clause-room
add_sources-requires-clause-room c = rw (c.in_ok-add_pair.ensures.table, c.in_ok-item.ensures.table)
    (simp length-append (omega (arith, c.requires.draft.holds.fits.sources)))

pub add_sources-requires-clause-fits : goal.add_sources-requires-clause-fits
add_sources-requires-clause-fits c =
    let N = c.args.self.now.lists in
    let name = c.args.spelled.now.item.now in
    let old = c.requires.draft.holds.fits in
    rw (c.in_ok-add_pair.ensures.table, c.in_ok-item.ensures.table) (record {
      lane_keys = old.lane_keys;
      apart = old.apart;
      each = old.each;
      lanes = old.lanes;
      sources = simp length-append (omega (arith, old.sources));
      items = simp length-append (omega (arith, old.items, (length-add_item-le N.items name).1));
    })

pub returns-clause-adds : goal.returns-clause-adds
returns-clause-adds c = grind (arith, common_steps)

pub add_sources-requires-clause-rows : goal.add_sources-requires-clause-rows
add_sources-requires-clause-rows c = c.in_ok-add_pair.ensures.rows

pub returns-clause-memory : goal.returns-clause-memory
returns-clause-memory c = c.add_sources.ensures.memory

pub add_pair-requires-clause-row : goal.add_pair-requires-clause-row
add_pair-requires-clause-row c = record {
  plant = rw c.in_ok-item.ensures.table c.requires.fits.within;
  item = c.in_ok-item.ensures.within;
  rule = rw c.in_ok-item.ensures.table c.requires.spelled.rule;
  lead = rw c.in_ok-item.ensures.table c.requires.spelled.lead;
  on_hand = rw c.of.ensures c.requires.spelled.on_hand;
  safety = rw c.of-2.ensures c.requires.spelled.safety;
}

pub add_pair-requires-clause-room : goal.add_pair-requires-clause-room
add_pair-requires-clause-room c = rw c.in_ok-item.ensures.table c.requires.fits.room

pub add_sources-requires-clause-sources : goal.add_sources-requires-clause-sources
add_sources-requires-clause-sources c = c.named_sources.ensures.sources c.requires.spelled.supply

pub add_sources-requires-clause-known : goal.add_sources-requires-clause-known
add_sources-requires-clause-known c = rw (c.named_sources.ensures.exact, c.in_ok-add_pair.ensures.table, c.in_ok-item.ensures.table) c.requires.fits.known

pub add_sources-requires-clause-fresh : goal.add_sources-requires-clause-fresh
add_sources-requires-clause-fresh c =
    let at = ap length c.pairs.ensures.value ∙ ap (λ (T : Table). length T.pairs) c.in_ok-item.ensures.table in
    pair_new c.args.self.now.lists c.item_no.new.lists c.add_pair.new.lists _ _ _ c.in_ok-item.ensures.table c.in_ok-add_pair.ensures.table at
    c.requires.draft.holds.rows
