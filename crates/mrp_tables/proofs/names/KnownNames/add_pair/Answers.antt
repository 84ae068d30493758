use Rattle.std.proofs.Common.{◌≡◌, ◌∷◌, ◌++◌, [], if◌then◌else◌, false, true≢false, not, ◌∙◌, ap, refl, sym}
use Rattle.std.specs.List.{list_any}
use Rattle.mrp_master_data.specs.Table.{IsName}
use Rattle.mrp_tables.specs.contracts.name_key.PairKeyPartialEq.TheImpl.{eq-value as same_pair}
use Rattle.mrp_tables.specs.declared.name_key.PairKey.{PairKey}
use Rattle.mrp_tables.proofs.Found.{any_of_pair, named_at, named_key, placed_at}
use Rattle.mrp_tables.proofs.Known.{pair_more}
use Rattle.mrp_tables.proofs.Words.{key_is, name_bytes}
use Rattle.mrp_tables.proofs.names.KnownNames.add_pair.Goals as goal
use Rattle.mrp_tables.proofs.names.KnownNames.add_pair.Goals.{After-insert}

-- the key is that of the names of the plant and the item
key : (c : After-insert) → ◌≡◌ {A = PairKey} (record { plant = c.in-Some-of.plant; item = c.in-Some.item })
    (named_key c.plant_name.result.now c.item_name.result.now)
key c =
    let plant = key_is c.plant_name.result.now c.in-Some-of.plant c.in-Some-of.ensures in
    let item = key_is c.item_name.result.now c.in-Some.item c.in-Some.ensures in
    λ i. record { plant = plant i; item = item i }

-- no pair has it yet
new_key : (c : After-insert)
    → list_any (same_pair.it (record { plant = c.in-Some-of.plant; item = c.in-Some.item })) c.args.self.now.pairs.keys ≡ false
new_key c =
    let N = c.args.lists.now in
    let row = c.args.row in
    let plant = c.plant_name.result.now in
    let item = c.item_name.result.now in
    let keys = c.args.self.now.pairs.keys in
    let here = placed_at N.plants row.plant.0 plant c.requires.row.plant c.requires.knows.plants.apart c.plant_name.ensures.value in
    let there = placed_at N.items row.item.0 item c.requires.row.item c.requires.knows.items.apart c.item_name.ensures.value in
    let called : IsName plant = named_at N.plants row.plant.0 plant c.requires.row.plant c.requires.knows.plants.named c.plant_name.ensures.value in
    let named : IsName item = named_at N.items row.item.0 item c.requires.row.item c.requires.knows.items.named c.item_name.ensures.value in
    ap (λ (k : PairKey). list_any (same_pair.it k) keys) (key c)
    ∙ any_of_pair N plant item c.args.self.now (name_bytes plant called) (name_bytes item named) c.requires.rows c.requires.knows
    row.plant.0 row.item.0 here there
    ∙ c.requires.fresh

pub unreachable-requires-then-not-branch : goal.unreachable-requires-then-not-branch
unreachable-requires-then-not-branch c =
    let fresh = new_key (goal.at.unreachable-requires-then-not-branch c).After-insert in
    absurd (true≢false (ap not (sym fresh) ∙ sym c.in_ok-insert.ensures.added ∙ c.if-not-branch.true))

pub returns-clause-knows : goal.returns-clause-knows
returns-clause-knows c =
    let inserted = (goal.at.returns-clause-knows c).After-insert in
    let keys = c.args.self.now.pairs.keys in
    let grown = c.in_ok-insert.ensures.keys
    ∙ ap (λ b. if b then keys else keys ++ (record { plant = c.in-Some-of.plant; item = c.in-Some.item }) ∷ []) (new_key inserted)
    ∙ ap (λ (k : PairKey). keys ++ k ∷ []) (key inserted) in
    pair_more c.args.lists.now c.add_pair.new.self c.args.self.now
    (record {
      plants = c.args.self.now.plants;
      items = c.args.self.now.items;
      pairs =
          c.insert.new.self;
    }) c.args.row c.plant_name.result.now c.item_name.result.now c.requires.knows c.plant_name.ensures.value c.item_name.ensures.value
    c.in_ok-add_pair.ensures.table refl refl grown
