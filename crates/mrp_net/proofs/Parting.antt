-- The network: a source is on one lane each way, so all lanes together have at most twice as many items as there are sources.
use Rattle.std.proofs.Common.{◌≡◌, ℕ, ◌+◌, ◌*◌, ◌≤◌, ◌<◌, ◌==◌, ◌&&◌, Bool, true, false, cond, eqb, List, [], ◌∷◌, length, refl, sym, ap, ◌∙◌, arith, inl, inr}
use Rattle.std.specs.List.{filter, flat_map, range_with_len, sum_by}
use Rattle.std.proofs.lemmas.Bool.{cases_Bool, cases_lt}
use Rattle.std.proofs.lemmas.List.{length-map}
use Rattle.std.proofs.lemmas.List.Sums.{sum_by-append, sum_by-cons, sum_by-le, sum_by-le-sum_by}
use Rattle.mrp_qty.proofs.RangeLaws.{placed_once, placed_past, sum_by-add, sum_by-ext, sum_by-none}
use Rattle.mrp_grouping.proofs.Kept.{sum_filter}
use Rattle.mrp_master_data.specs.declared.rows.SourceRow.{SourceRow}
use Rattle.mrp_master_data.specs.Table.{Table}
use Rattle.mrp_net.specs.declared.lane.Lane.{Lane}
use Rattle.mrp_net.specs.Lanes.{lanes, lanes_of, lanes_between, taken_over, lane_items, item_of_source}
use Rattle.mrp_net.specs.Sums.{pair_at}

ones : {X : Type 0} (xs : List X) → sum_by (λ _. 1) xs ≡ length xs
ones [] = refl
ones {X} (x ∷ xs) = omega (arith, sum_by-cons (λ (_ : X). 1) x xs, ones xs)

-- how many rows pass, one by one
passing : {X : Type 0} (p : X → Bool) (xs : List X) → length (filter p xs) ≡ sum_by (λ x. cond (p x) 1 0) xs
passing {X} p xs = sym (ones (filter p xs)) ∙ sum_filter (λ (_ : X). 1) p xs

passing-cons : {X : Type 0} (p : X → Bool) (x : X) (xs : List X) → length (filter p (x ∷ xs)) ≡ cond (p x) 1 0 + length (filter p xs)
passing-cons p x xs = omega (arith, passing p (x ∷ xs), passing p xs, sum_by-cons (λ x. cond (p x) 1 0) x xs)

-- of the numbers below n at most one is k
one_is : (k n : ℕ) → sum_by (λ i. cond (k == i) 1 0) (range_with_len 0 n) ≤ 1
one_is k n = elim (cases_lt k n) [
  | inl lt ↦ omega (arith, placed_once 1 k n lt)
  | inr past ↦ omega (arith, placed_past 1 k n (omega arith))
]

one_place : (b : Bool) (k n : ℕ) → sum_by (λ i. cond (b && (k == i)) 1 0) (range_with_len 0 n) ≤ cond b 1 0
one_place true k n = one_is k n
one_place false k n = omega (arith, sum_by-none (range_with_len 0 n))

-- rows that are told apart by a key are no more than all of them
parts_are_few : {X : Type 0} (test : X → Bool) (key : X → ℕ) (n : ℕ) (rows : List X)
    → sum_by (λ i. length (filter (λ r. test r && (key r == i)) rows)) (range_with_len 0 n) ≤ length (filter test rows)
parts_are_few test key n [] = omega (arith, sum_by-none (range_with_len 0 n))
parts_are_few {X} test key n (r ∷ rows) =
    let places : List ℕ = range_with_len 0 n in
    let here : ℕ → ℕ = λ i. cond (test r && (key r == i)) 1 0 in
    let later : ℕ → ℕ = λ i. length (filter (λ s. test s && (key s == i)) rows) in
    let each = sum_by-ext (λ i. length (filter (λ s. test s && (key s == i)) (r ∷ rows))) (λ i. here i + later i) places
    (λ i. passing-cons (λ s. test s && (key s == i)) r rows) in
    omega (
      arith,
      each,
      sum_by-add here later places,
      one_place (test r) (key r) n,
      parts_are_few test key n rows,
      passing-cons test r rows,
    )

-- a sum over lists that stand one behind the other
sum_by-flat_map : {X Y : Type 0} (f : Y → ℕ) (g : X → List Y) (xs : List X) → sum_by f (flat_map g xs) ≡ sum_by (λ x. sum_by f (g x)) xs
sum_by-flat_map f g [] = refl
sum_by-flat_map f g (x ∷ xs) =
    omega (arith, sum_by-append f (g x) (flat_map g xs), sum_by-flat_map f g xs, sum_by-cons (λ x. sum_by f (g x)) x xs)

twice : (f : ℕ → ℕ) (xs : List ℕ) → sum_by (λ x. 2 * f x) xs ≡ 2 * sum_by f xs
twice f [] = refl
twice f (x ∷ xs) = omega (arith, sum_by-cons (λ x. 2 * f x) x xs, sum_by-cons f x xs, twice f xs)

-- the items of the lanes between two plants
items_between : (N : Table) (customer supplier : ℕ)
    → sum_by (λ lane. length (lane_items N lane)) (lanes_between N customer supplier) ≤ 2 * length (taken_over N customer supplier)
items_between N customer supplier = elim (cases_Bool (length (taken_over N customer supplier) == 0)) [
  | inl none ↦ rw none (omega arith)
  | inr some ↦ rw some (let each = length-map (taken_over N customer supplier) (item_of_source N) in omega (arith, each))
]

-- those of one customer's, as many as twice its sources
items_of : (N : Table) (customer : ℕ)
    → sum_by (λ lane. length (lane_items N lane)) (lanes_of N customer)
    ≤ 2 * length (filter (λ (s : SourceRow). (pair_at N s.pair.0).plant.0 == customer) N.sources)
items_of N customer =
    let plants : List ℕ = range_with_len 0 (length N.plants) in
    let items = λ (lane : Lane). length (lane_items N lane) in
    omega (
      arith,
      sum_by-flat_map items (lanes_between N customer) plants,
      sum_by-le-sum_by (λ p. sum_by items (lanes_between N customer p)) (λ p. 2 * length (taken_over N customer p)) plants
          (items_between N customer),
      twice (λ p. length (taken_over N customer p)) plants,
      parts_are_few (λ (s : SourceRow). (pair_at N s.pair.0).plant.0 == customer) (λ s. s.plant.0) (length N.plants) N.sources,
    )

pub items_are_few : (N : Table) → sum_by (λ lane. length (lane_items N lane)) (lanes N) ≤ 2 * length N.sources
items_are_few N =
    let plants : List ℕ = range_with_len 0 (length N.plants) in
    let items = λ (lane : Lane). length (lane_items N lane) in
    let of_customer : ℕ → ℕ = λ c. length (filter (λ (s : SourceRow). (pair_at N s.pair.0).plant.0 == c) N.sources) in
    omega (
      arith,
      sum_by-flat_map items (lanes_of N) plants,
      sum_by-le-sum_by (λ c. sum_by items (lanes_of N c)) (λ c. 2 * of_customer c) plants (items_of N),
      twice of_customer plants,
      parts_are_few (λ (s : SourceRow). true) (λ s. (pair_at N s.pair.0).plant.0) (length N.plants) N.sources,
      passing (λ (s : SourceRow). true) N.sources,
      ones N.sources,
    )
