use Rattle.std.proofs.Common.{◌≡◌, ℕ, List, is_some, ap, sym, ◌∙◌}
use Rattle.csv.specs.Records.{fields_of}
use Rattle.mrp_master_data.specs.Names.{has_plant, plant_no}
use Rattle.mrp_validation.specs.Grammar.{field, has_vendor}
use Rattle.mrp_tables.specs.Spelled.{terms_of_vendor}
use Rattle.mrp_tables.proofs.VendorFacts.{vendor-answered, vendor-fits, vendor-no_pair, vendor-no_plant, vendor-not_bought, vendor-plant, vendor-repeated}
use Rattle.mrp_validation.proofs.KeepingSteps.{handed_on}
use Rattle.mrp_tables.proofs.draft.Draft.vendor_fits.Goals as goal
use Rattle.mrp_tables.proofs.draft.Draft.vendor_fits.Goals.{After-has_plant_of}

-- whether the plant of the pair is there
plant_is : (c : After-has_plant_of) → is_some (plant_no c.args.self.now.lists (field (fields_of c.args.row.now) 2)) ≡ c.has_plant_of.result
plant_is c =
    let N = c.args.self.now.lists in
    ap (λ (plant : List ℕ). is_some (plant_no N plant)) (sym c.field.ensures) ∙ sym c.has_plant_of.ensures

pub returns-then-has_vendor-clause-exact : goal.returns-then-has_vendor-clause-exact
returns-then-has_vendor-clause-exact c =
    let N = c.args.self.now.lists in
    let t = terms_of_vendor (fields_of c.args.row.now) c.args.spelled in
    sym (vendor-repeated N t (ap (has_vendor N) (sym c.requires.found.pair) ∙ sym c.if-has_vendor.ensures.exact))

pub returns-then-not-has_plant_of-clause-exact : goal.returns-then-not-has_plant_of-clause-exact
returns-then-not-has_plant_of-clause-exact c =
    let at = goal.at.returns-then-not-has_plant_of-clause-exact c in
    let N = c.args.self.now.lists in
    let t = terms_of_vendor (fields_of c.args.row.now) c.args.spelled in
    let new = ap (has_vendor N) (sym c.requires.found.pair) ∙ sym c.if-has_vendor.ensures.exact in
    sym (vendor-no_plant N t new (plant_is at.After-has_plant_of ∙ c.if-not-has_plant_of.true))

pub returns-in_err-pair-clause-exact : goal.returns-in_err-pair-clause-exact
returns-in_err-pair-clause-exact c =
    let at = goal.at.returns-in_err-pair-clause-exact c in
    let N = c.args.self.now.lists in
    let t = terms_of_vendor (fields_of c.args.row.now) c.args.spelled in
    let new = ap (has_vendor N) (sym c.requires.found.pair) ∙ sym c.if-has_vendor.ensures.exact in
    let there = plant_is at.After-has_plant_of ∙ c.if-not-has_plant_of.false in
    rw (handed_on c.from_residual.result _ c.from_residual.ensures.1)
    (sym (vendor-no_pair N t new _ (c.in_err-pair.ensures.value ∙ vendor-answered N t new c.args.found c.requires.found.pair there)))

pub returns-then-not-is_bought-clause-exact : goal.returns-then-not-is_bought-clause-exact
returns-then-not-is_bought-clause-exact c =
    let at = goal.at.returns-then-not-is_bought-clause-exact c in
    let N = c.args.self.now.lists in
    let t = terms_of_vendor (fields_of c.args.row.now) c.args.spelled in
    let new = ap (has_vendor N) (sym c.requires.found.pair) ∙ sym c.if-has_vendor.ensures.exact in
    let there = plant_is at.After-has_plant_of ∙ c.if-not-has_plant_of.false in
    let found = c.in_ok-pair.ensures.value ∙ vendor-answered N t new c.args.found c.requires.found.pair there in
    sym (vendor-not_bought N t new c.in_ok-pair.pair found (sym c.is_bought.ensures.exact ∙ c.if-not-is_bought.true))

pub returns-then-has_plant-clause-exact : goal.returns-then-has_plant-clause-exact
returns-then-has_plant-clause-exact c =
    let at = goal.at.returns-then-has_plant-clause-exact c in
    let N = c.args.self.now.lists in
    let t = terms_of_vendor (fields_of c.args.row.now) c.args.spelled in
    let new = ap (has_vendor N) (sym c.requires.found.pair) ∙ sym c.if-has_vendor.ensures.exact in
    let there = plant_is at.After-has_plant_of ∙ c.if-not-has_plant_of.false in
    let found = c.in_ok-pair.ensures.value ∙ vendor-answered N t new c.args.found c.requires.found.pair there in
    let bought = sym c.is_bought.ensures.exact ∙ c.if-not-is_bought.false in
    sym (vendor-plant N t new c.in_ok-pair.pair found bought (ap (has_plant N) (sym c.field-2.ensures) ∙ sym c.if-has_plant.ensures.exact))

pub returns-clause-exact : goal.returns-clause-exact
returns-clause-exact c =
    let at = goal.at.returns-clause-exact c in
    let N = c.args.self.now.lists in
    let t = terms_of_vendor (fields_of c.args.row.now) c.args.spelled in
    let new = ap (has_vendor N) (sym c.requires.found.pair) ∙ sym c.if-has_vendor.ensures.exact in
    let there = plant_is at.After-has_plant_of ∙ c.if-not-has_plant_of.false in
    let found = c.in_ok-pair.ensures.value ∙ vendor-answered N t new c.args.found c.requires.found.pair there in
    let bought = sym c.is_bought.ensures.exact ∙ c.if-not-is_bought.false in
    sym (vendor-fits N t new c.in_ok-pair.pair found bought (ap (has_plant N) (sym c.field-2.ensures) ∙ sym c.if-has_plant.ensures.exact))
