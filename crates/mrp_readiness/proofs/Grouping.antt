-- Readiness: the components that wait for each pair, as parts of one list.
use Rattle.std.proofs.Common.{◌≡◌, ℕ, ◌+◌, ◌-◌, ◌<◌, List, [], length, get_or, take, drop, map, sym, ap, ◌∙◌, arith, Some}
use Rattle.std.specs.Prelude.{slice_get, slice_range}
use Rattle.std.specs.List.{range_with_len}
use Rattle.std.proofs.lemmas.List.{ext_get_or, length-map, take-map, drop-map}
use Rattle.std.proofs.lemmas.List.FromFn.{get_or-map-range_with_len, length-map-range_with_len}
use Rattle.std.proofs.lemmas.Option.{slice_get-get_or}
use Rattle.mrp_grouping.specs.Starts.{IsGrouped}
use Rattle.mrp_grouping.proofs.Sorting.{IsGrouped-within}
use Rattle.mrp_readiness.specs.declared.join.Join.{Join}
use Rattle.mrp_readiness.specs.Components.{ArePartsOf, parts}
use Rattle.mrp_readiness.specs.Counts.{components_of}

-- the parts of the components of grouped joins
pub parts_grouped : (joins rows : List Join) (starts all : List ℕ) (n : ℕ) → IsGrouped (λ (j : Join). j.demander) n joins rows starts
    → all ≡ map (λ (j : Join). j.component) rows → parts all starts ≡ map (components_of joins) (range_with_len 0 n)
parts_grouped joins rows starts all n is same =
    let key : Join → ℕ = λ j. j.demander in
    let component : Join → ℕ = λ j. j.component in
    let part : ℕ → List ℕ = λ x. slice_range all (get_or starts x 0) (get_or starts (x + 1) 0) in
    let count : length starts - 1 ≡ n = omega (arith, is.size) in
    let one : (x : ℕ) → x < n → part x ≡ components_of joins x = λ x h.
    let a : ℕ = get_or starts x 0 in
    let b : ℕ = get_or starts (x + 1) 0 in
    ap (λ (z : List ℕ). slice_range z a b) same
    ∙ ap (λ (z : List ℕ). take (b - a) z) (drop-map component a rows)
    ∙ take-map component (b - a) (drop a rows)
    ∙ ap (map component) (is.slices x h) in
    ap (λ (k : ℕ). map part (range_with_len 0 k)) count
    ∙ ext_get_or [] (map part (range_with_len 0 n)) (map (components_of joins) (range_with_len 0 n)) (length-map-range_with_len part 0 n
    ∙ sym (length-map-range_with_len (components_of joins) 0 n))
    (λ x h.
    let less : x < n = omega (arith, length-map-range_with_len part 0 n) in
    get_or-map-range_with_len part 0 n x x [] less (omega arith) ∙ one x less
    ∙ sym (get_or-map-range_with_len (components_of joins) 0 n x x [] less (omega arith)))

pub ArePartsOf-grouped : (joins rows : List Join) (starts all : List ℕ) (n : ℕ) → IsGrouped (λ (j : Join). j.demander) n joins rows starts
    → all ≡ map (λ (j : Join). j.component) rows → ArePartsOf all starts
ArePartsOf-grouped joins rows starts all n is same =
    let size : length all ≡ length rows = ap length same ∙ length-map rows (λ (j : Join). j.component) in
    record {
      rises = λ x h. (IsGrouped-within (λ (j : Join). j.demander) n joins rows starts x is (omega (arith, is.size))).0;
      within = λ x h. omega (arith, size, (IsGrouped-within (λ (j : Join). j.demander) n joins rows starts x is (omega (arith, is.size))).1);
    }

-- a place of the value has a part
pub within_starts : (all starts : List ℕ) (value : List (List ℕ)) (x : ℕ) → parts all starts ≡ value → x < length value → x + 1 < length starts
within_starts all starts value x shown known =
    let part : ℕ → List ℕ = λ y. slice_range all (get_or starts y 0) (get_or starts (y + 1) 0) in
    omega (arith, ap length shown, length-map-range_with_len part 0 (length starts - 1))

pub part_at : (all starts : List ℕ) (value : List (List ℕ)) (x : ℕ) → parts all starts ≡ value → x < length value
    → slice_get value x ≡ Some (slice_range all (get_or starts x 0) (get_or starts (x + 1) 0))
part_at all starts value x shown known =
    let part : ℕ → List ℕ = λ y. slice_range all (get_or starts y 0) (get_or starts (y + 1) 0) in
    let less : x < length starts - 1 = omega (arith, within_starts all starts value x shown known) in
    slice_get-get_or value x [] known
    ∙ ap (λ (v : List (List ℕ)). Some (get_or v x [])) (sym shown)
    ∙ ap (λ (p : List ℕ). Some p) (get_or-map-range_with_len part 0 (length starts - 1) x x [] less (omega arith))
