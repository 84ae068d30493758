-- Low-level codes: the planning order by them, and what it says of the places in it.
use Rattle.std.proofs.Common.{◌≡◌, ℕ, ◌<◌, ◌==◌, List, length, map, slice_index, slice_index_or, take, arith, ap, subst, sym, ◌∙◌, ⊎_elim, eq-eqb, ne_eqb}
use Rattle.std.specs.List.{range_with_len, Contains}
use Rattle.std.proofs.lemmas.Bool.{cases_eq, cases_order, eqb-false}
use Rattle.std.proofs.lemmas.List.{get_or_default, get_or-map, get_or-take, length-map, length-take}
use Rattle.std.proofs.lemmas.List.FromFn.{get_or-range_with_len, length-range_with_len}
use Rattle.std.proofs.lemmas.List.Sorted.{All-permutation, Contains-permutation}
use Rattle.std.proofs.lemmas.Map.Keys.{apart_from_distinct, IsDistinct-IsPermutation, IsDistinct-from_apart}
use Rattle.mrp_master_data.specs.Table.{Table, IsPair}
use Rattle.mrp_master_data.specs.declared.numbers.PairNo.{PairNo}
use Rattle.mrp_net.proofs.Members.{In, Contains-from_in}
use Rattle.mrp_net.specs.Edges.{demanders}
use Rattle.mrp_loops.specs.Order.{ComesBefore, IsInCodeOrder}
use Rattle.mrp_loops.specs.Planning.{IsPlanningOrder}
use Rattle.mrp_net.specs.declared.edge.Edge.{Edge}

flips : (x y : ℕ) → (x == y) ≡ (y == x)
flips x y =
    ⊎_elim
    (λ (e : x ≡ y). eq-eqb x y e ∙ sym (eq-eqb y x (sym e)))
    (λ (ne : x ≡ y → ⊥). ne_eqb x y ne ∙ sym (ne_eqb y x (λ (e : y ≡ x). ne (sym e))))
    (cases_eq x y)

pub range_at : (n i d : ℕ) → i < n → slice_index_or (range_with_len 0 n) i d ≡ i
range_at n i d within = omega (arith, get_or-range_with_len 0 n i d within)

-- a pair stands in one place
pub places_apart : (N : Table) (order : List ℕ) → IsPlanningOrder N order → (i j : ℕ) → i < j → j < length order → slice_index order i ≡ slice_index order j → ⊥
places_apart N order is i j below within same =
    let n = length N.pairs in
    let size = length-range_with_len 0 n in
    let apart = IsDistinct-from_apart (λ (x y : ℕ). x == y) (range_with_len 0 n)
    (λ a b d less high. ne_eqb _ _ (λ (e : slice_index_or (range_with_len 0 n) a d ≡ slice_index_or (range_with_len 0 n) b d).
    omega (arith, e, range_at n a d (omega (arith, size)), range_at n b d (omega (arith, size))))) in
    eqb-false _ _ (apart_from_distinct (λ (x y : ℕ). x == y) order i j 0
    (IsDistinct-IsPermutation (λ (x y : ℕ). x == y) flips (range_with_len 0 n) order is.all apart) below within) same

-- each place has a pair of the table
pub place_in_table : (N : Table) (order : List ℕ) → IsPlanningOrder N order → (k : ℕ) → k < length order → slice_index order k < length N.pairs
place_in_table N order is k within =
    All-permutation (λ (x : ℕ). x < length N.pairs) (range_with_len 0 (length N.pairs)) order is.all
    (λ i d h. let here : i < length N.pairs = omega (arith, length-range_with_len 0 (length N.pairs))
    in omega (arith, range_at (length N.pairs) i d here)) k 0 within

-- each pair of the table has a place
pub place_in_order : (N : Table) (order : List ℕ) → IsPlanningOrder N order → (x : ℕ) → x < length N.pairs
    → (k : ℕ) × (k < length order) × (slice_index order k ≡ x)
place_in_order N order is x within =
    let in_range : Contains (range_with_len 0 (length N.pairs)) x =
    (x, omega (arith, length-range_with_len 0 (length N.pairs)), range_at (length N.pairs) x x within) in
    let found = Contains-permutation (range_with_len 0 (length N.pairs)) order x is.all in_range in
    (found.0, found.1, get_or_default order found.0 0 x found.1 ∙ found.2)

-- the demander of an edge has a place before its pair
pub demander_before : (N : Table) (order : List ℕ) → IsPlanningOrder N order → (k : ℕ) → k < length order → (i : ℕ) (d : Edge)
    → i < length (demanders N (slice_index order k))
    → (j : ℕ) × (j < k) × (slice_index order j ≡ (slice_index_or (demanders N (slice_index order k)) i d).demander.0)
demander_before N order is k within i d edge =
    let found = is.demanders_first k within i d edge in
    let size = length-take k order in
    let early : found.0 < k = omega (arith, found.1, size) in
    let y = (slice_index_or (demanders N (slice_index order k)) i d).demander.0 in
    (found.0, early, sym (get_or-take k order found.0 0 early) ∙ get_or_default (take k order) found.0 0 y found.1 ∙ found.2)

-- ---- in code order

comes_one_way : (codes : List ℕ) (x y : ℕ) → ComesBefore codes x y → ComesBefore codes y x → ⊥
comes_one_way codes x y first second = ⊎_elim
    (λ (a : slice_index codes x < slice_index codes y). ⊎_elim
    (λ (b : slice_index codes y < slice_index codes x). omega arith)
    (λ (b : (slice_index codes y ≡ slice_index codes x) × (y < x)). omega (arith, b.0))
    second)
    (λ (a : (slice_index codes x ≡ slice_index codes y) × (x < y)). ⊎_elim
    (λ (b : slice_index codes y < slice_index codes x). omega (arith, a.0))
    (λ (b : (slice_index codes y ≡ slice_index codes x) × (y < x)). omega (arith, a.1, b.1))
    second)
    first

-- what comes before by its code stands before in the order
pub before_in_order : (codes order : List ℕ) → IsInCodeOrder codes order → (i k : ℕ) → i < length order → k < length order
    → ComesBefore codes (slice_index order i) (slice_index order k) → i < k
before_in_order codes order is i k short long before = ⊎_elim
    (λ (same : i ≡ k).
    let here : ComesBefore codes (slice_index order k) (slice_index order k) =
    subst (λ (j : ℕ). ComesBefore codes (slice_index order j) (slice_index order k)) same before in
    absurd (comes_one_way codes (slice_index order k) (slice_index order k) here here))
    (λ apart. ⊎_elim
    (λ (low : i < k). low)
    (λ (high : k < i). absurd (comes_one_way codes (slice_index order i) (slice_index order k) before (is k i 0 high short)))
    apart)
    (cases_order i k)

-- ---- an order of pair numbers

module _ (N : Table) (order : List PairNo) (is : IsPlanningOrder N (map (λ z. z.0) order)) where
  number_at : (k : ℕ) (d : PairNo) → k < length order → slice_index (map (λ z. z.0) order) k ≡ (slice_index_or order k d).0
  number_at k d l = get_or-map (λ (z : PairNo). z.0) order k d 0 l

  pub pair_placed : (k : ℕ) (d : PairNo) → k < length order → IsPair N (slice_index_or order k d).0
  pair_placed k d l =
      let here = place_in_table N (map (λ (z : PairNo). z.0) order) is k (omega (arith, length-map order (λ (z : PairNo). z.0))) in
      omega (arith, here, number_at k d l)

  pub pairs_apart : (j k : ℕ) (d : PairNo) → j < k → k < length order → (slice_index_or order j d).0 ≡ (slice_index_or order k d).0 → ⊥
  pairs_apart j k d low l same =
      places_apart N (map (λ (z : PairNo). z.0) order) is j k low (omega (arith, length-map order (λ (z : PairNo). z.0)))
      (number_at j d (omega arith) ∙ same ∙ sym (number_at k d l))

  pub pair_place : (x : ℕ) → IsPair N x → (k : ℕ) × (k < length order) × ((d : PairNo) → (slice_index_or order k d).0 ≡ x)
  pair_place x pair =
      let place = place_in_order N (map (λ (z : PairNo). z.0) order) is x pair in
      let l : place.0 < length order = omega (arith, place.1, length-map order (λ (z : PairNo). z.0)) in
      (place.0, l, λ d. sym (number_at place.0 d l) ∙ place.2)

  -- a demander of the pair at k stands before k
  pub demander_place : (k : ℕ) (d : PairNo) (e : Edge) → k < length order → In (demanders N (slice_index_or order k d).0) e
      → (j : ℕ) × (j < k) × (j < length order) × ((d : PairNo) → (slice_index_or order j d).0 ≡ e.demander.0)
  demander_place k d e l h =
      let numbers = map (λ (z : PairNo). z.0) order in
      let x = slice_index numbers k in
      let at = Contains-from_in (demanders N x) e (subst (λ (y : ℕ). In (demanders N y) e) (sym (number_at k d l)) h) in
      let before = demander_before N numbers is k (omega (arith, length-map order (λ (z : PairNo). z.0))) at.0 e at.1 in
      let short : before.0 < length order = omega (arith, before.1) in
      (before.0, before.1, short, λ d. sym (number_at before.0 d short) ∙ before.2 ∙ ap (λ (f : Edge). f.demander.0) at.2)
