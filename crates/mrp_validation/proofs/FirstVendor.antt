-- The first of validation's tests that a vendor row fails is the fault that it has.
use Rattle.std.proofs.Common.{◌≡◌, ℕ, ◌-◌, ◌&&◌, ◌||◌, Bool, true, false, cond, if◌then◌else◌, not, List, [], ◌∷◌, Option, Some, None}
use Rattle.std.proofs.Common.{is_some, option_map, unwrap_or, Result, Ok, Err, ok_or, refl, sym, ap, ◌∙◌}
use Rattle.std.specs.Result.{result_err}
use Rattle.mrp_qty.specs.declared.quantity.TheConstants.{MOST}
use Rattle.mrp_master_data.specs.declared.numbers.PairNo.{PairNo}
use Rattle.mrp_master_data.specs.declared.numbers.PlantNo.{PlantNo}
use Rattle.mrp_master_data.specs.Names.{has_plant, pair_named}
use Rattle.mrp_master_data.specs.Rows.{Vendor}
use Rattle.mrp_master_data.specs.Table.{horizon, Table}
use Rattle.mrp_master_data.specs.Spelling.{is_name}
use Rattle.mrp_master_data.specs.Parsing.{number_within}
use Rattle.mrp_validation.specs.declared.fault.TableFaultKind.{TableFaultKind}
use Rattle.mrp_validation.specs.declared.fault.TableFaultKind.TheVariants as fault
use Rattle.mrp_validation.specs.declared.kind.Kind.TheVariants as kind
use Rattle.mrp_validation.specs.Faults.{faults_of_kind}
use Rattle.mrp_validation.specs.Grammar.{◌>>=◌, check, field, has_vendor, is_bought, is_empty, known_pair, name_field, ranged, ranged_if_any}
use Rattle.mrp_validation.specs.Grammar.{vendor_fits, vendor_terms, VendorTerms}
use Rattle.mrp_validation.specs.Tests.{first_failed, has_number, pair_in, plant_in, three_names, vendor_passes}
use Rattle.mrp_validation.proofs.FirstSteps.{more, name_same}
use Rattle.mrp_validation.proofs.KeepingSteps.{after, same_Ok}

-- three names, two numbers, and a third where its field isn't empty
vendor_refusal : (row : List (List ℕ)) (periods : ℕ) → result_err (vendor_terms row periods)
    ≡ cond (not (three_names row)) (Some fault.BadName) (cond (not (has_number row 4 0 MOST && has_number row 5 0 MOST
    && (is_empty (field row 6) || has_number row 6 0 (periods - 1)))) (Some fault.BadNumber) None)
unfolding vendor_terms
vendor_refusal row periods =
    by (is_name (field row 1)) (is_name (field row 2)) (is_name (field row 3)) (field row 1) (field row 2) (field row 3)
    (number_within (field row 4) 0 MOST) (number_within (field row 5) 0 MOST) (is_empty (field row 6)) (number_within (field row 6) 0 (periods - 1))
  where
    by : (a b c : Bool) (x y z : List ℕ) (f s : Option ℕ) (none : Bool) (e : Option ℕ)
        → result_err {T = VendorTerms} ((if a then Ok x else Err fault.BadName) >>= λ p. (if b then Ok y
        else Err fault.BadName) >>= λ q. (if c then Ok z else Err fault.BadName) >>= λ r. ok_or f fault.BadNumber >>= λ i. ok_or s fault.BadNumber >>= λ j.
        (if none then Ok None else (ok_or e fault.BadNumber >>= λ n. Ok (Some n))) >>= λ k. Ok
        (record { vendor = p; plant = q; item = r; figure = i; transit = j; reset = k }))
        ≡ cond (not (a && b && c)) (Some fault.BadName) (cond (not (is_some f && is_some s && (none || is_some e))) (Some fault.BadNumber) None)
    by true true true x y z (Some f) (Some s) true e = refl
    by true true true x y z (Some f) (Some s) false (Some e) = refl
    by true true true x y z (Some f) (Some s) false None = refl
    by true true true x y z (Some f) None none e = refl
    by true true true x y z None s none e = refl
    by true true false x y z f s none e = refl
    by true false c x y z f s none e = refl
    by false b c x y z f s none e = refl

-- the names of a vendor row
record VendorIs (row : List (List ℕ)) (t : VendorTerms) : Type 0 where
  vendor : t.vendor ≡ field row 1
  plant : t.plant ≡ field row 2
  item : t.item ≡ field row 3

vendor_is : (row : List (List ℕ)) (periods : ℕ) (t : VendorTerms) → vendor_terms row periods ≡ Ok t → VendorIs row t
unfolding vendor_terms
vendor_is row periods t e =
    let a = after (name_field (field row 1)) _ t e in
    let b = after (name_field (field row 2)) _ t a.2 in
    let c = after (name_field (field row 3)) _ t b.2 in
    let d = after (ranged (field row 4) 0 MOST) _ t c.2 in
    let f = after (ranged (field row 5) 0 MOST) _ t d.2 in
    let g = after (ranged_if_any (field row 6) 0 (periods - 1)) _ t f.2 in
    let same = same_Ok _ t g.2 in
    record {
      vendor = sym (ap (λ (v : VendorTerms). v.vendor) same) ∙ name_same (field row 1) a.0 a.1;
      plant = sym (ap (λ (v : VendorTerms). v.plant) same) ∙ name_same (field row 2) b.0 b.1;
      item = sym (ap (λ (v : VendorTerms). v.item) same) ∙ name_same (field row 3) c.0 c.1;
    }

-- a plant and a pair that are there
abbrev there : ℕ → ℕ → Result (PlantNo × PairNo) TableFaultKind
there p x = Ok (record { 0 = p }, record { 0 = x })

-- the vendor of that name
abbrev named : List ℕ → VendorTerms → PairNo → Vendor
named name t pair = record { name = name; pair = pair; figure = t.figure; transit = t.transit; reset = t.reset }

vendor_fit : (N : Table) (row : List (List ℕ)) (t : VendorTerms) → VendorIs row t
    → result_err (vendor_fits N t)
    ≡ first_failed (vendor_passes N row) (fault.Repeated ∷ fault.UnknownPlant ∷ fault.UnknownPair ∷ fault.NotSourced ∷ fault.SelfSource ∷ [])
unfolding vendor_fits known_pair
vendor_fit N row t is =
    rw (is.vendor, is.plant, is.item) (by (named (field row 1) t) (not (has_vendor N (pair_in N row 2 3))) (plant_in N row 2) (not (has_plant N (field row 1))))
  where
    bought : (made : PairNo → Vendor) (x : ℕ) (b others : Bool)
        → result_err {T = Vendor} (check b fault.NotSourced >>= λ u. check others fault.SelfSource >>= λ u. Ok (made (record { 0 = x })))
        ≡ cond (not b) (Some fault.NotSourced) (cond (not others) (Some fault.SelfSource) None)
    bought made x true true = refl
    bought made x true false = refl
    bought made x false others = refl

    known : (made : PairNo → Vendor) (p : ℕ) (o : Option ℕ) (others : Bool)
        → result_err {T = Vendor} ((ok_or o fault.UnknownPair >>= λ x. there p x) >>= λ found. check
        (is_bought N found.1.0) fault.NotSourced
        >>= λ u. check others fault.SelfSource >>= λ u. Ok (made found.1))
        ≡ cond (not (is_some o)) (Some fault.UnknownPair) (cond (not (unwrap_or (option_map (is_bought N) o) false)) (Some fault.NotSourced)
        (cond (not others) (Some fault.SelfSource) None))
    known made p None others = refl
    known made p (Some x) others = bought made x (is_bought N x) others

    by : (made : PairNo → Vendor) (new : Bool) (plant : Option ℕ) (others : Bool)
        → result_err {T = Vendor} (check new fault.Repeated >>= λ u. (ok_or plant fault.UnknownPlant >>= λ p. ok_or
        (pair_named N (Some p) (field row 3)) fault.UnknownPair >>= λ x. there p x) >>= λ found. check
        (is_bought N found.1.0) fault.NotSourced
        >>= λ u. check others fault.SelfSource >>= λ u. Ok (made found.1))
        ≡ cond (not new) (Some fault.Repeated) (cond (not (is_some plant)) (Some fault.UnknownPlant)
        (cond (not (is_some (pair_named N plant (field row 3)))) (Some fault.UnknownPair)
        (cond (not (unwrap_or (option_map (is_bought N) (pair_named N plant (field row 3))) false)) (Some fault.NotSourced)
        (cond (not others) (Some fault.SelfSource) None))))
    by made false plant others = refl
    by made true None others = refl
    by made true (Some p) others = known made p (pair_named N (Some p) (field row 3)) others

pub vendor-first : (N : Table) (row : List (List ℕ)) → result_err (vendor_terms row (horizon N) >>= vendor_fits N)
    ≡ first_failed (vendor_passes N row) (faults_of_kind kind.Vendor)
vendor-first N row =
    more (vendor_passes N row) (fault.BadName ∷ fault.BadNumber ∷ [])
    (fault.Repeated ∷ fault.UnknownPlant ∷ fault.UnknownPair ∷ fault.NotSourced ∷ fault.SelfSource ∷ []) (vendor_terms row (horizon N)) (vendor_fits N)
    (vendor_refusal row (horizon N)) (λ t is. vendor_fit N row t (vendor_is row (horizon N) t is))
