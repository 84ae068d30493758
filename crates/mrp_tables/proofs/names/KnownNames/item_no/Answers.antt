use Rattle.std.proofs.Common.{◌≡◌, ◌∷◌, ◌++◌, [], if◌then◌else◌, true, false, not, position, unwrap_or, ◌∙◌, ap, refl, sym}
use Rattle.std.specs.List.{list_any}
use Rattle.std.specs.Str.{bytes_eq}
use Rattle.mrp_master_data.specs.Table.{Table}
use Rattle.mrp_tables.specs.declared.name_key.NameKey.{NameKey}
use Rattle.mrp_tables.proofs.Known.{any_by_key, item_more, place_by_key, place_of_last, table_same, turned, within_names}
use Rattle.mrp_tables.proofs.Words.{key_is}
use Rattle.mrp_tables.proofs.names.KnownNames.item_no.Goals as goal
use Rattle.mrp_tables.proofs.names.KnownNames.item_no.Goals.{In_ok-place}

-- whether the name is new
is_new : (c : In_ok-place) → c.in_ok-place.is_new ≡ not (list_any (bytes_eq c.args.name.now) c.args.lists.now.items)
is_new c =
    let name = c.args.name.now in
    c.in_ok-place.ensures.added
    ∙ ap not (any_by_key name c.args.lists.now.items c.args.self.now.items.keys c.in-Some.key c.requires.knows.items c.requires.named
    (key_is name c.in-Some.key c.in-Some.ensures))

pub returns-then-not-is_new-clause-table : goal.returns-then-not-is_new-clause-table
returns-then-not-is_new-clause-table c =
    table_same c.args.lists.now c.args.name.now (turned _ _ false (is_new (goal.at.returns-then-not-is_new-clause-table c).In_ok-place) c.if-not-is_new.true)

pub returns-then-not-is_new-clause-place : goal.returns-then-not-is_new-clause-place
returns-then-not-is_new-clause-place c =
    let name = c.args.name.now in
    place_by_key name c.args.lists.now.items c.args.self.now.items.keys c.in-Some.key c.in_ok-place.place c.requires.knows.items c.requires.named
    (key_is name c.in-Some.key c.in-Some.ensures)
    (turned _ _ false (is_new (goal.at.returns-then-not-is_new-clause-place c).In_ok-place) c.if-not-is_new.true) c.in_ok-place.ensures.index

pub add_item-requires-clause-fresh : goal.add_item-requires-clause-fresh
add_item-requires-clause-fresh c = turned _ _ true (is_new (goal.at.add_item-requires-clause-fresh c).In_ok-place) c.if-not-is_new.false

pub returns-clause-knows : goal.returns-clause-knows
returns-clause-knows c =
    let name = c.args.name.now in
    let keys = c.args.self.now.items.keys in
    let key = key_is name c.in-Some.key c.in-Some.ensures in
    let fresh = turned _ _ true (is_new (goal.at.returns-clause-knows c).In_ok-place) c.if-not-is_new.false in
    let grown = c.in_ok-place.ensures.keys
    ∙ ap (λ b. if b then keys else keys ++ c.in-Some.key ∷ []) (any_by_key name c.args.lists.now.items keys c.in-Some.key c.requires.knows.items
    c.requires.named key ∙ fresh)
    ∙ ap (λ (k : NameKey). keys ++ k ∷ []) key in
    item_more c.args.lists.now c.add_item.new.self c.args.self.now
    (record {
      plants = c.args.self.now.plants;
      items = c.insert_full.new.self;
      pairs =
          c.args.self.now.pairs;
    }) name c.requires.rows c.requires.knows c.requires.named fresh
    c.in_ok-add_item.ensures.table refl grown refl

pub returns-clause-place : goal.returns-clause-place
returns-clause-place c =
    let name = c.args.name.now in
    let fresh = turned _ _ true (is_new (goal.at.returns-clause-place c).In_ok-place) c.if-not-is_new.false in
    place_of_last name c.args.lists.now.items c.args.self.now.items.keys c.in-Some.key c.in_ok-place.place c.requires.knows.items c.requires.named
    (key_is name c.in-Some.key c.in-Some.ensures) fresh
    c.in_ok-place.ensures.index
    ∙ ap (λ (N : Table). unwrap_or (position (bytes_eq name) N.items) 0) (sym c.in_ok-add_item.ensures.table)

pub returns-clause-within : goal.returns-clause-within
returns-clause-within c = within_names c.add_item.new.self.items c.insert_full.new.self.keys c.in_ok-place.place
    (returns-clause-knows c).items c.in_ok-place.ensures.within
