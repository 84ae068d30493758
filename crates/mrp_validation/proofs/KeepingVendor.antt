-- A valid vendor row more: its pair is bought and has no vendor yet, and no plant has the vendor's name.
use Rattle.std.proofs.Common.{◌≡◌, ℕ, ◌-◌, Bool, true, false, not, if◌then◌else◌, List, [], ◌∷◌, ◌++◌, length, Option, Some, None, option_map}
use Rattle.std.proofs.Common.{IfSome, slice_get, unwrap_or, Result, Ok, refl, ap, sym, ◌∙◌, subst, arith}
use Rattle.std.specs.List.{list_any}
use Rattle.std.specs.Str.{bytes_eq}
use Rattle.std.proofs.lemmas.Bool.{not-true}
use Rattle.std.proofs.lemmas.List.{length_push}
use Rattle.std.proofs.lemmas.List.Elements.{All-push, All-weaker}
use Rattle.mrp_qty.specs.declared.quantity.TheConstants.{MOST}
use Rattle.mrp_master_data.specs.declared.numbers.PairNo.{PairNo}
use Rattle.mrp_master_data.specs.declared.numbers.PlantNo.{PlantNo}
use Rattle.mrp_master_data.specs.declared.rows.PairRow.{PairRow}
use Rattle.mrp_master_data.specs.declared.rows.Supply.{Supply}
use Rattle.mrp_master_data.specs.declared.rows.Supply.TheVariants as supply
use Rattle.mrp_master_data.specs.Growing.{with_vendor}
use Rattle.mrp_master_data.specs.Names.{has_plant, pair_named, plant_no}
use Rattle.mrp_master_data.specs.Rows.{Vendor}
use Rattle.mrp_master_data.specs.Table.{horizon, is_same_vendor, IsOnce, IsRead, IsSourced, IsVendorRow, supply_at, Table}
use Rattle.mrp_master_data.proofs.Grow.{read-with_vendor}
use Rattle.mrp_master_data.proofs.SpelledLists.{distinct_push}
use Rattle.mrp_validation.specs.declared.fault.TableFaultKind.{TableFaultKind}
use Rattle.mrp_validation.specs.Grammar.{◌>>=◌, field, has_vendor, is_bought, is_buy, is_empty, known_pair, name_field, ranged, ranged_if_any}
use Rattle.mrp_validation.specs.Grammar.{vendor_fits, vendor_in_row, vendor_made, vendor_terms, VendorTerms}
use Rattle.mrp_validation.proofs.KeepingFew.{few, HasBelow}
use Rattle.mrp_validation.proofs.KeepingRead.{Falls, known_within, named_is, period_is, ranged_is, two_names_read}
use Rattle.mrp_validation.proofs.KeepingRows.{known_named}
use Rattle.mrp_validation.proofs.KeepingSame.{stays_once, stays_sourced}
use Rattle.mrp_validation.proofs.KeepingSteps.{after, after_check, same_Ok}

-- ---- what is read of a vendor row that is kept

pub record VendorParts (N : Table) (t : VendorTerms) (v : Vendor) : Type 0 where
  pub found : PlantNo × PairNo
  pub new : has_vendor N (pair_named N (plant_no N t.plant) t.item) ≡ false
  pub known : known_pair N t.plant t.item ≡ Ok found
  pub bought : is_bought N found.1.0 ≡ true
  pub others : has_plant N t.vendor ≡ false
  pub same : vendor_made found.1 t ≡ v

pub vendor_parts : (N : Table) (t : VendorTerms) (v : Vendor) → vendor_fits N t ≡ Ok v → VendorParts N t v
unfolding vendor_fits
vendor_parts N t v is =
    let there = has_vendor N (pair_named N (plant_no N t.plant) t.item) in
    let a = after_check (not there) _ _ v is in
    let b = after (known_pair N t.plant t.item) _ v a.1 in
    let c = after_check (is_bought N b.0.1.0) _ _ v b.2 in
    let d = after_check (not (has_plant N t.vendor)) _ _ v c.1 in
    record {
      found = b.0;
      new = not-true there a.0;
      known = b.1;
      bought = c.0;
      others = not-true (has_plant N t.vendor) d.0;
      same = same_Ok _ v d.1;
    }

-- each field of a vendor row is read as it stands in the terms
pub record VendorRead (row : List (List ℕ)) (periods : ℕ) (t : VendorTerms) : Type 0 where
  pub vendor : name_field (field row 1) ≡ Ok t.vendor
  pub plant : name_field (field row 2) ≡ Ok t.plant
  pub item : name_field (field row 3) ≡ Ok t.item
  pub figure : ranged (field row 4) 0 MOST ≡ Ok t.figure
  pub transit : ranged (field row 5) 0 MOST ≡ Ok t.transit
  pub reset : ranged_if_any (field row 6) 0 (periods - 1) ≡ Ok t.reset

pub vendor_terms_read : (row : List (List ℕ)) (periods : ℕ) (t : VendorTerms) → vendor_terms row periods ≡ Ok t → VendorRead row periods t
unfolding vendor_terms
vendor_terms_read row periods t is =
    let n = two_names_read row _ t is in
    let a = after (name_field (field row 3)) _ t n.rest in
    let b = after (ranged (field row 4) 0 MOST) _ t a.2 in
    let c = after (ranged (field row 5) 0 MOST) _ t b.2 in
    let d = after (ranged_if_any (field row 6) 0 (periods - 1)) _ t c.2 in
    let same : record { vendor = n.first; plant = n.second; item = a.0; figure = b.0; transit = c.0; reset = d.0 } ≡ t = same_Ok _ t d.2 in
    subst (VendorRead row periods) same (record {
      vendor = n.first_is;
      plant = n.second_is;
      item = a.1;
      figure = b.1;
      transit = c.1;
      reset = d.1;
    })

-- ---- the row is in range

abbrev FallsIfAny : Table → Option ℕ → Type 0
FallsIfAny N reset = IfSome reset (Falls N)

-- the period of a reset, where there is one
reset_is : (N : Table) (text : List ℕ) (reset : Option ℕ) → IsRead N → ranged_if_any text 0 (horizon N - 1) ≡ Ok reset → FallsIfAny N reset
reset_is N text reset read e = by (is_empty text) e
  where
    by : (b : Bool)
        → ◌≡◌ {A = Result (Option ℕ) TableFaultKind} (if b then Ok None else (ranged text 0 (horizon N - 1) >>= λ number. Ok (Some number))) (Ok reset)
        → FallsIfAny N reset
    by true e = subst (FallsIfAny N) (same_Ok None reset e) tt
    by false e =
        let a = after (ranged text 0 (horizon N - 1)) (λ number. Ok (Some number)) reset e in
        subst (FallsIfAny N) (same_Ok (Some a.0) reset a.2) (period_is N text a.0 read a.1)

abbrev pair_of : Vendor → ℕ
pair_of v = v.pair.0

pub vendor_read : (N : Table) (row : List (List ℕ)) (v : Vendor) → IsRead N → IsOnce (with_vendor N v) → vendor_in_row N row ≡ Ok v → IsRead (with_vendor N v)
vendor_read N row v read once is =
    let a = after (vendor_terms row (horizon N)) (vendor_fits N) v is in
    let t = a.0 in
    let fields = vendor_terms_read row (horizon N) t a.1 in
    let p = vendor_parts N t v a.2 in
    let made : IsVendorRow N v = subst (IsVendorRow N) p.same (record {
      name = named_is (field row 1) t.vendor fields.vendor;
      pair = known_within N t.plant t.item p.found p.known;
      figure = (ranged_is (field row 4) 0 MOST t.figure fields.figure).1;
      transit = (ranged_is (field row 5) 0 MOST t.transit fields.transit).1;
      reset = reset_is N (field row 6) t.reset read fields.reset;
    }) in
    let within = All-push (HasBelow pair_of (length N.pairs)) N.vendors v
    (All-weaker (IsVendorRow N) (HasBelow pair_of (length N.pairs)) (λ w h. h.pair) N.vendors read.vendors) made.pair in
    let le = few pair_of (N.vendors ++ v ∷ []) (length N.pairs) once.vendors within in
    read-with_vendor N v read made (omega (arith, le, length_push N.vendors v, read.limits.pairs))

-- ---- the pair is bought, has no other vendor, and no plant has the name

-- a pair that is bought
bought : (o : Option PairRow) → unwrap_or (option_map (λ p. is_buy p.supply) o) false ≡ true → unwrap_or (option_map (λ p. p.supply) o) supply.Buy ≡ supply.Buy
bought None e = refl
bought (Some p) e = by p.supply e
  where
    by : (s : Supply) → is_buy s ≡ true → s ≡ supply.Buy
    by supply.Make e = absurd (cc)
    by supply.Buy e = refl
    by supply.From e = absurd (cc)

-- what a vendor row that fits says
record Fitting (N : Table) (v : Vendor) : Type 0 where
  new : list_any (λ w. is_same_vendor w v) N.vendors ≡ false
  bought : supply_at N v.pair.0 ≡ supply.Buy
  others : list_any (bytes_eq v.name) N.plants ≡ false

fits : (N : Table) (t : VendorTerms) (v : Vendor) → vendor_fits N t ≡ Ok v → Fitting N v
fits N t v is =
    let p = vendor_parts N t v is in
    let named = known_named N t.plant t.item p.found p.known in
    subst (Fitting N) p.same (record {
      new = ap (has_vendor N) (sym named) ∙ p.new;
      bought = bought (slice_get N.pairs p.found.1.0) p.bought;
      others = p.others;
    })

pub vendor_keeps : (N : Table) (row : List (List ℕ)) (v : Vendor) → IsOnce N → IsSourced N → vendor_in_row N row ≡ Ok v
    → IsOnce (with_vendor N v) × IsSourced (with_vendor N v)
vendor_keeps N row v once sourced is =
    let a = after (vendor_terms row (horizon N)) (vendor_fits N) v is in
    let says = fits N a.0 v a.2 in (
      stays_once N (with_vendor N v) refl once once.plants once.bills once.cums once.resets once.policies once.usages
          (distinct_push is_same_vendor N.vendors v once.vendors says.new),
      stays_sourced N (with_vendor N v) refl sourced sourced.parents sourced.plants sourced.ships sourced.cums sourced.resets sourced.usages
          (All-push (λ v. supply_at N v.pair.0 ≡ supply.Buy) N.vendors v sourced.vendors says.bought)
          (All-push (λ v. list_any (bytes_eq v.name) N.plants ≡ false) N.vendors v sourced.named says.others) sourced.arrive,
    )
