use Rattle.std.proofs.Common.{◌≡◌, ◌∙◌, ap, sym, option_map, position}
use Rattle.mrp_master_data.specs.Names.{pair_named, plant_no}
use Rattle.mrp_master_data.specs.declared.numbers.PairNo.{PairNo}
use Rattle.mrp_tables.specs.contracts.name_key.PairKeyPartialEq.TheImpl.{eq-value as same_pair}
use Rattle.mrp_tables.specs.Keys.{key_of}
use Rattle.mrp_tables.specs.declared.name_key.NameKey.{NameKey}
use Rattle.mrp_tables.proofs.AmountFacts.{pair_names}
use Rattle.mrp_tables.proofs.Found.{no_long_item, no_long_plant, place_of_pair, plant_of_pair}
use Rattle.mrp_tables.proofs.Words.{all_bytes, has_no_key, key_is}
use Rattle.mrp_tables.proofs.draft.Draft.find_pair.Goals as goal
use Rattle.mrp_tables.proofs.draft.Draft.find_pair.Goals.{After-get_index_of}

pub returns-in_err-plant-clause-exact : goal.returns-in_err-plant-clause-exact
returns-in_err-plant-clause-exact c =
    let plant = c.args.plant.now in
    ap (option_map (λ (x : PairNo). x.0)) c.from_residual.ensures
    ∙ sym (no_long_plant c.args.self.now.lists c.args.self.now.known plant c.args.item.now (has_no_key plant c.in_err-plant.ensures) c.requires.knows)

pub returns-in_err-item-clause-exact : goal.returns-in_err-item-clause-exact
returns-in_err-item-clause-exact c =
    let N = c.args.self.now.lists in
    let item = c.args.item.now in
    ap (option_map (λ (x : PairNo). x.0)) c.from_residual-in_err-item.ensures
    ∙ sym (no_long_item N c.args.self.now.known (plant_no N c.args.plant.now) item (has_no_key item c.in_err-item.ensures) c.requires.knows)

-- what the look-up finds
found : (c : After-get_index_of)
    → position (same_pair.it (record { plant = c.in_ok-plant.plant; item = c.in_ok-item.item })) c.args.self.now.known.pairs.keys
    ≡ pair_named c.args.self.now.lists (plant_no c.args.self.now.lists c.args.plant.now) c.args.item.now
found c =
    let plant = c.args.plant.now in
    let item = c.args.item.now in
    let k = c.args.self.now.known in
    ap (λ (key : NameKey). position (same_pair.it (record { plant = key; item = c.in_ok-item.item })) k.pairs.keys) (key_is plant c.in_ok-plant.plant
    c.in_ok-plant.ensures)
    ∙ ap (λ (key : NameKey). position (same_pair.it (record { plant = key_of plant; item = key })) k.pairs.keys)
    (key_is item c.in_ok-item.item c.in_ok-item.ensures)
    ∙ place_of_pair c.args.self.now.lists plant item k (all_bytes plant c.type_inv.plant) (all_bytes item c.type_inv.item) c.requires.rows c.requires.knows

pub returns-in-Some-clause-exact : goal.returns-in-Some-clause-exact
returns-in-Some-clause-exact c = c.in-Some.ensures.index ∙ found (goal.at.returns-in-Some-clause-exact c).After-get_index_of

pub returns-in-None-clause-exact : goal.returns-in-None-clause-exact
returns-in-None-clause-exact c = c.in-None.ensures.index ∙ found (goal.at.returns-in-None-clause-exact c).After-get_index_of

pub returns-in-Some-clause-plant : goal.returns-in-Some-clause-plant
returns-in-Some-clause-plant c =
    let N = c.args.self.now.lists in
    plant_of_pair N (plant_no N c.args.plant.now) c.args.item.now c.in-Some.place (returns-in-Some-clause-exact c)

pub returns-in-Some-clause-named : goal.returns-in-Some-clause-named
returns-in-Some-clause-named c =
    pair_names c.args.self.now.lists c.args.self.now.known c.args.plant.now c.args.item.now c.in-Some.place c.requires.knows
    (sym (c.in-Some.ensures.index ∙ found (goal.at.returns-in-Some-clause-named c).After-get_index_of))
