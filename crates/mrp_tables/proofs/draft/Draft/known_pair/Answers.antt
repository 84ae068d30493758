use Rattle.std.proofs.Common.{◌≡◌, ℕ, List, is_some, Result, ◌∙◌, ap, sym}
use Rattle.csv.specs.Records.{fields_of}
use Rattle.mrp_master_data.specs.Names.{plant_no}
use Rattle.mrp_master_data.specs.declared.numbers.PairNo.{PairNo}
use Rattle.mrp_master_data.specs.declared.numbers.PlantNo.{PlantNo}
use Rattle.mrp_validation.specs.Grammar.{field, seen}
use Rattle.mrp_validation.specs.declared.fault.TableFaultKind.{TableFaultKind}
use Rattle.mrp_tables.proofs.AmountFacts.{no_plant, pair_answered}
use Rattle.mrp_tables.proofs.draft.Draft.known_pair.Goals as goal
use Rattle.mrp_tables.proofs.draft.Draft.known_pair.Goals.{After-has_plant_of}

-- whether the row's plant is there
plant_is : (c : After-has_plant_of) → is_some (plant_no c.args.self.now.lists (field (fields_of c.args.row.now) 1)) ≡ c.has_plant_of.result
plant_is c =
    let N = c.args.self.now.lists in
    ap (λ (plant : List ℕ). is_some (plant_no N plant)) (sym c.field.ensures) ∙ sym c.has_plant_of.ensures

pub returns-then-not-has_plant_of-clause-exact : goal.returns-then-not-has_plant_of-clause-exact
returns-then-not-has_plant_of-clause-exact c =
    let at = goal.at.returns-then-not-has_plant_of-clause-exact c in
    let row = fields_of c.args.row.now in
    let lacks = plant_is at.After-has_plant_of ∙ c.if-not-has_plant_of.true in
    ap (λ (r : Result (PlantNo × PairNo) TableFaultKind). seen (λ (f : PlantNo × PairNo). f.1) r)
    (sym (no_plant c.args.self.now.lists (field row 1) (field row 2) lacks))

pub returns-clause-exact : goal.returns-clause-exact
returns-clause-exact c =
    let at = goal.at.returns-clause-exact c in
    let row = fields_of c.args.row.now in
    c.ok_or.ensures.value
    ∙ pair_answered c.args.self.now.lists (field row 1) (field row 2) c.args.found c.requires.found.pair
    (plant_is at.After-has_plant_of ∙ c.if-not-has_plant_of.false)
