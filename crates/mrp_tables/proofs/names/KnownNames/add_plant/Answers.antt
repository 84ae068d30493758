use Rattle.std.proofs.Common.{◌≡◌, ◌∷◌, ◌++◌, [], if◌then◌else◌, false, true≢false, not, ◌∙◌, ap, refl, sym}
use Rattle.std.specs.List.{list_any}
use Rattle.mrp_tables.specs.contracts.name_key.NameKeyPartialEq.TheImpl.{eq-value as same_name}
use Rattle.mrp_tables.specs.declared.name_key.NameKey.{NameKey}
use Rattle.mrp_tables.proofs.Known.{any_by_key, plant_more}
use Rattle.mrp_tables.proofs.Words.{key_is}
use Rattle.mrp_tables.proofs.names.KnownNames.add_plant.Goals as goal
use Rattle.mrp_tables.proofs.names.KnownNames.add_plant.Goals.{After-insert}

-- no plant has the key yet
new_key : (c : After-insert) → list_any (same_name.it c.in-Some.key) c.args.self.now.plants.keys ≡ false
new_key c =
    let name = c.args.name.now in
    any_by_key name c.args.lists.now.plants c.args.self.now.plants.keys c.in-Some.key c.requires.knows.plants c.requires.named
    (key_is name c.in-Some.key c.in-Some.ensures) ∙ c.requires.fresh

pub unreachable-requires-then-not-branch : goal.unreachable-requires-then-not-branch
unreachable-requires-then-not-branch c =
    let fresh = new_key (goal.at.unreachable-requires-then-not-branch c).After-insert in
    absurd (true≢false (ap not (sym fresh) ∙ sym c.in_ok-insert.ensures.added ∙ c.if-not-branch.true))

pub returns-clause-knows : goal.returns-clause-knows
returns-clause-knows c =
    let name = c.args.name.now in
    let keys = c.args.self.now.plants.keys in
    let fresh = new_key (goal.at.returns-clause-knows c).After-insert in
    let grown = c.in_ok-insert.ensures.keys ∙ ap (λ b. if b then keys else keys ++ c.in-Some.key ∷ []) fresh
    ∙ ap (λ (k : NameKey). keys ++ k ∷ []) (key_is name c.in-Some.key c.in-Some.ensures) in
    plant_more c.args.lists.now c.add_plant.new.self c.args.self.now
    (record {
      plants = c.insert.new.self;
      items = c.args.self.now.items;
      pairs =
          c.args.self.now.pairs;
    }) name c.requires.rows c.requires.knows c.requires.named c.requires.fresh
    c.in_ok-add_plant.ensures.table grown refl refl
