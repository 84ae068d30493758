-- Master data: the sources that a supply spells, which are other plants each, and shares that
-- follow one another to the whole.
use Rattle.std.proofs.Common.{◌≡◌, ◌≤◌, ℕ, ◌+◌, ◌==◌, ◌&&◌, not, Bool, true, false, leb, if◌then◌else◌, List, [], ◌∷◌, length, Option, Some, None, refl, subst}
use Rattle.std.proofs.Common.{arith}
use Rattle.std.specs.List.{All, IsDistinct, list_all, list_any, slice_split, sum_by}
use Rattle.std.specs.Prelude.{codes}
use Rattle.std.specs.Str.{bytes_eq}
use Rattle.std.proofs.lemmas.Bool.{and_parts, eqb-true, or_from, or_parts}
use Rattle.std.proofs.lemmas.Bool.Decides.{nat_tests}
use Rattle.std.proofs.lemmas.List.Elements.{All-cons, All-head, All-nil, All-tail, recursion_from_All}
use Rattle.std.proofs.lemmas.List.Sums.{sum_by-cons}
use Rattle.std.proofs.lemmas.Map.Keys.{IsDistinct-cons}
use Rattle.mrp_qty.specs.declared.limits.TheConstants.{MOST_SHARE, MOST_SOURCES_OF_PAIR}
use Rattle.mrp_master_data.specs.Spelling.{is_name}
use Rattle.mrp_master_data.specs.Parsing.{cut, is_colon}
use Rattle.mrp_master_data.specs.Supplies.{BuyTerms, FromTerms, MakeTerms, SourceTerms, SupplyTerms}
use Rattle.mrp_master_data.specs.SupplyParsing.{are_different, are_whole, AreWhole, from_terms, HasName, in_a_row, is_same_plant, IsShare, IsWholeSupply}
use Rattle.mrp_master_data.specs.SupplyParsing.{plant_shares, PlantShare, ShareFrom, sources_of, split_sources, supply_in, supply_of, whole_in_a_row}
use Rattle.mrp_master_data.proofs.SpelledLists.{All-from_any, All_one, IsDistinct-nil, distinct_one}
use Rattle.mrp_master_data.proofs.Ranges.{same_Some}
use Rattle.mrp_master_data.proofs.Shares.{InRange, shares_in_range}

false_of_not : (b : Bool) → not b ≡ true → b ≡ false
false_of_not true e = absurd (cc)
false_of_not false e = refl

-- ---- plants with their shares, one after the other

row_length : (low : ℕ) (ss : List PlantShare) → length (in_a_row low ss) ≡ length ss
row_length low [] = refl
row_length low (s ∷ ss) = let e = row_length (low + s.share) ss in omega (arith, e)

row_shares : (low : ℕ) (ss : List PlantShare) → All InRange ss → low + sum_by (λ s. s.share) ss ≤ MOST_SHARE → All IsShare (in_a_row low ss)
row_shares low [] are fits = All-nil IsShare
row_shares low (s ∷ ss) are fits =
    let one : InRange s = All-head InRange s ss are in
    let sums = sum_by-cons (λ (x : PlantShare). x.share) s ss in
    All-cons IsShare (record { plant = s.plant; low = low; high = low + s.share }) (in_a_row (low + s.share) ss)
    (record { rises = omega (arith, one.0); ends = omega (arith, sums, fits) })
    (row_shares (low + s.share) ss (All-tail InRange s ss are) (omega (arith, sums, fits)))

row_names : (low : ℕ) (ss : List PlantShare) → list_all (λ s. is_name s.plant) ss ≡ true → All HasName (in_a_row low ss)
row_names low [] e = All-nil HasName
row_names low (s ∷ ss) e =
    let parts = and_parts (is_name s.plant) (list_all (λ s. is_name s.plant) ss) e in
    All-cons HasName (record { plant = s.plant; low = low; high = low + s.share }) (in_a_row (low + s.share) ss) parts.0 (row_names (low + s.share) ss parts.1)

row_new : (plant : List ℕ) (low : ℕ) (ss : List PlantShare) → list_any (λ t. bytes_eq plant t.plant) ss ≡ false
    → list_any (λ t. bytes_eq plant t.plant) (in_a_row low ss) ≡ false
row_new plant low [] e = refl
row_new plant low (s ∷ ss) e = let parts = or_parts (bytes_eq plant s.plant) (list_any (λ t. bytes_eq plant t.plant) ss) e
    in or_from _ _ parts.0 (row_new plant (low + s.share) ss parts.1)

row_apart : (low : ℕ) (ss : List PlantShare) → are_different ss ≡ true → IsDistinct is_same_plant (in_a_row low ss)
row_apart low [] e = IsDistinct-nil is_same_plant
row_apart low (s ∷ ss) e =
    let parts = and_parts (not (list_any (λ t. bytes_eq s.plant t.plant) ss)) (are_different ss) e in
    let t : SourceTerms = record { plant = s.plant; low = low; high = low + s.share } in
    let new = row_new s.plant (low + s.share) ss (false_of_not (list_any (λ t. bytes_eq s.plant t.plant) ss) parts.0) in
    IsDistinct-cons is_same_plant t (in_a_row (low + s.share) ss)
    (recursion_from_All (λ u. is_same_plant t u ≡ false) (in_a_row (low + s.share) ss) (All-from_any (is_same_plant t) (in_a_row (low + s.share) ss) new))
    (row_apart (low + s.share) ss parts.1)

row_follows : (low high : ℕ) (ss : List PlantShare) → low + sum_by (λ s. s.share) ss ≡ high → ShareFrom low (in_a_row low ss) high
row_follows low high [] e = omega (arith, e)
row_follows low high (s ∷ ss) e = let sums = sum_by-cons (λ (x : PlantShare). x.share) s ss
    in (refl, row_follows (low + s.share) high ss (omega (arith, sums, e)))

row_whole : (ss : List PlantShare) → All InRange ss → are_whole ss ≡ true → AreWhole (in_a_row 0 ss)
row_whole ss range e =
    let a = and_parts (leb 2 (length ss) && leb (length ss) MOST_SOURCES_OF_PAIR && list_all (λ s. is_name s.plant) ss && are_different ss)
    (sum_by (λ s. s.share) ss == MOST_SHARE) e in
    let b = and_parts (leb 2 (length ss) && leb (length ss) MOST_SOURCES_OF_PAIR && list_all (λ s. is_name s.plant) ss) (are_different ss) a.0 in
    let c = and_parts (leb 2 (length ss) && leb (length ss) MOST_SOURCES_OF_PAIR) (list_all (λ s. is_name s.plant) ss) b.0 in
    let d = and_parts (leb 2 (length ss)) (leb (length ss) MOST_SOURCES_OF_PAIR) c.0 in
    let few : length ss ≤ MOST_SOURCES_OF_PAIR = grind (arith, nat_tests) in
    let sums : sum_by (λ s. s.share) ss ≡ MOST_SHARE = eqb-true _ MOST_SHARE a.1 in
    record {
      few = omega (arith, few, row_length 0 ss);
      names = row_names 0 ss c.1;
      each = row_shares 0 ss range (omega (arith, sums));
      apart = row_apart 0 ss b.1;
      shares = row_follows 0 MOST_SHARE ss (omega (arith, sums));
    }

whole_row : (r : Option (List PlantShare)) (ts : List SourceTerms) → ((ss : List PlantShare) → r ≡ Some ss → All InRange ss) → whole_in_a_row r ≡ Some ts
    → AreWhole ts
whole_row None ts range e = absurd (cc)
whole_row (Some ss) ts range e = by (are_whole ss) refl e
  where
    by : (b : Bool) → are_whole ss ≡ b → ◌≡◌ {A = Option (List SourceTerms)} (if b then Some (in_a_row 0 ss) else None) (Some ts) → AreWhole ts
    by true w e = subst AreWhole (same_Some (in_a_row 0 ss) ts e) (row_whole ss (range ss refl) w)
    by false w e = absurd (cc)

split_are : (text : List ℕ) (ts : List SourceTerms) → split_sources text ≡ Some ts → AreWhole ts
unfolding split_sources
split_are text ts e = whole_row (plant_shares (slice_split is_colon text)) ts (shares_in_range (slice_split is_colon text)) e

sources_are : (text : List ℕ) (ss : List SourceTerms) → sources_of text ≡ Some ss → AreWhole ss
unfolding sources_of
sources_are text ss e = by (is_name text) refl e
  where
    by : (b : Bool) → is_name text ≡ b → ◌≡◌ {A = Option (List SourceTerms)} (if b then Some (record { plant = text; low = 0; high = MOST_SHARE } ∷ [])
        else split_sources text) (Some ss) → AreWhole ss
    by true name e =
        let one : SourceTerms = record { plant = text; low = 0; high = MOST_SHARE } in
        subst AreWhole (same_Some (one ∷ []) ss e) (record {
          few = omega arith;
          names = All_one HasName one name;
          each =
              All_one IsShare one (record { rises = omega arith; ends = omega arith });
          apart = distinct_one is_same_plant one;
          shares = (refl, refl);
        })
    by false name e = split_are text ss e

-- ---- the supply of a pair row

from_is : (r : Option (List SourceTerms)) (s : SupplyTerms) → ((ss : List SourceTerms) → r ≡ Some ss → AreWhole ss) → from_terms r ≡ Some s → IsWholeSupply s
from_is (Some ss) s are e = subst IsWholeSupply (same_Some (FromTerms ss) s e) (are ss refl)
from_is None s are e = absurd (cc)

supply_in_is : (text : List ℕ) (o : Option (List ℕ × List ℕ)) (s : SupplyTerms) → supply_in text o ≡ Some s → IsWholeSupply s
supply_in_is text None s e = by (bytes_eq text (codes "make")) (bytes_eq text (codes "buy")) e
  where
    by : (b c : Bool) → ◌≡◌ {A = Option SupplyTerms} (if b then Some MakeTerms else if c then Some BuyTerms else None) (Some s) → IsWholeSupply s
    by true c e = subst IsWholeSupply (same_Some MakeTerms s e) tt
    by false true e = subst IsWholeSupply (same_Some BuyTerms s e) tt
    by false false e = absurd (cc)
supply_in_is text (Some p) s e = by (bytes_eq p.0 (codes "from")) e
  where
    by : (b : Bool) → ◌≡◌ {A = Option SupplyTerms} (if b then from_terms (sources_of p.1) else None) (Some s) → IsWholeSupply s
    by true e = from_is (sources_of p.1) s (sources_are p.1) e
    by false e = absurd (cc)

pub supply_is : (text : List ℕ) (s : SupplyTerms) → supply_of text ≡ Some s → IsWholeSupply s
unfolding supply_of
supply_is text s e = supply_in_is text (cut text) s e
