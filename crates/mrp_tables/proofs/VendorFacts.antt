-- The reader of tables: what a vendor row says of its pair, which is one that the rows so far allow, or none.
use Rattle.std.proofs.Common.{◌≡◌, ℕ, true, false, not, Option, is_some, option_map, Result, Ok, Err, ok_or, refl, ap, sym, ◌∙◌}
use Rattle.mrp_master_data.specs.declared.numbers.PairNo.{PairNo}
use Rattle.mrp_master_data.specs.declared.numbers.PlantNo.{PlantNo}
use Rattle.mrp_master_data.specs.Names.{has_plant, pair_named, plant_no}
use Rattle.mrp_master_data.specs.Rows.{Vendor}
use Rattle.mrp_master_data.specs.Table.{Table}
use Rattle.mrp_validation.specs.Grammar.{◌>>=◌, check, has_vendor, is_bought, known_pair, seen, vendor_fits, vendor_made, VendorTerms}
use Rattle.mrp_validation.specs.declared.fault.TableFaultKind.{TableFaultKind}
use Rattle.mrp_validation.specs.declared.fault.TableFaultKind.TheVariants as fault
use Rattle.mrp_tables.proofs.AmountFacts.{no_plant, of_pair, pair_answered, unseen}

-- the pair of the row
abbrev pub pair_of : Table → VendorTerms → Option ℕ
pair_of N t = pair_named N (plant_no N t.plant) t.item

pub vendor-repeated : (N : Table) (t : VendorTerms) → has_vendor N (pair_of N t) ≡ true → vendor_fits N t ≡ Err fault.Repeated
unfolding vendor_fits
vendor-repeated N t is = rw is refl

module _ (N : Table) (t : VendorTerms) (new : has_vendor N (pair_of N t) ≡ false) where
  pub vendor-no_plant : is_some (plant_no N t.plant) ≡ false → vendor_fits N t ≡ Err fault.UnknownPlant
  unfolding vendor_fits
  vendor-no_plant lacks = rw (new, no_plant N t.plant t.item lacks) refl

  -- what is answered of the pair by its names
  pub vendor-answered : (x : Option PairNo) → option_map (λ (p : PairNo). p.0) x ≡ pair_of N t → is_some (plant_no N t.plant) ≡ true
      → ◌≡◌ {A = Result PairNo TableFaultKind} (ok_or x fault.UnknownPair) (seen (λ (f : PlantNo × PairNo). f.1) (known_pair N t.plant t.item))
  vendor-answered x is there = pair_answered N t.plant t.item x is there

  pub vendor-no_pair : (e : TableFaultKind)
      → ◌≡◌ {A = Result PairNo TableFaultKind} (Err e) (seen (λ (f : PlantNo × PairNo). f.1) (known_pair N t.plant t.item))
      → vendor_fits N t ≡ Err e
  unfolding vendor_fits
  vendor-no_pair e refused = rw (new, unseen (known_pair N t.plant t.item) e refused) refl

  fits : PairNo → Result Vendor TableFaultKind
  fits x =
      check (is_bought N x.0) fault.NotSourced >>= λ b. check (not (has_plant N t.vendor)) fault.SelfSource >>= λ u. Ok (vendor_made x t)

  vendor-known : (x : PairNo)
      → ◌≡◌ {A = Result PairNo TableFaultKind} (Ok x) (seen (λ (f : PlantNo × PairNo). f.1) (known_pair N t.plant t.item))
      → vendor_fits N t ≡ fits x
  unfolding vendor_fits fits
  vendor-known x found =
      rw new (of_pair (known_pair N t.plant t.item) fits ∙ ap (λ (r : Result PairNo TableFaultKind). r >>= fits) (sym found))

  pub vendor-not_bought : (x : PairNo)
      → ◌≡◌ {A = Result PairNo TableFaultKind} (Ok x) (seen (λ (f : PlantNo × PairNo). f.1) (known_pair N t.plant t.item))
      → is_bought N x.0 ≡ false → vendor_fits N t ≡ Err fault.NotSourced
  unfolding fits
  vendor-not_bought x found made = vendor-known x found ∙ rw made refl

  pub vendor-plant : (x : PairNo)
      → ◌≡◌ {A = Result PairNo TableFaultKind} (Ok x) (seen (λ (f : PlantNo × PairNo). f.1) (known_pair N t.plant t.item))
      → is_bought N x.0 ≡ true → has_plant N t.vendor ≡ true → vendor_fits N t ≡ Err fault.SelfSource
  unfolding fits
  vendor-plant x found bought plant = vendor-known x found ∙ rw (bought, plant) refl

  pub vendor-fits : (x : PairNo)
      → ◌≡◌ {A = Result PairNo TableFaultKind} (Ok x) (seen (λ (f : PlantNo × PairNo). f.1) (known_pair N t.plant t.item))
      → is_bought N x.0 ≡ true → has_plant N t.vendor ≡ false → vendor_fits N t ≡ Ok (vendor_made x t)
  unfolding fits
  vendor-fits x found bought named = vendor-known x found ∙ rw (bought, named) refl
