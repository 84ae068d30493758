-- The loop check, step by step: a pair is taken away, an edge is passed.
use Rattle.std.proofs.Common.{◌≡◌, ℕ, ◌+◌, ◌<◌, ◌≤◌, ◌==◌, ◌||◌, Bool, true, false, cond, not, ⊎_elim, List, [], ◌∷◌, ◌++◌, length, map, get_or, refl, sym, ap}
use Rattle.std.proofs.Common.{◌∙◌, arith, count_by, All}
use Rattle.std.specs.List.{list_any}
use Rattle.std.proofs.lemmas.Bool.{eq-eqb, eqb-true, ne_eqb, cases_eq, cases_lt, true≢false, or_cases, or_left, or_right, both_ways}
use Rattle.std.proofs.lemmas.Bool.Decides.{nat_tests}
use Rattle.std.proofs.lemmas.List.{get_or_append_left, get_or_push, length_push, get_or-map, length-map}
use Rattle.std.proofs.lemmas.List.Elements.{All-head, All-tail}
use Rattle.std.proofs.lemmas.List.Folds.{list_any-append, list_any_at}
use Rattle.std.proofs.lemmas.Map.Keys.{IsDistinct-from_apart}
use Rattle.std.proofs.lemmas.Map.Steps.{length-le_from_distinct_below}
use Rattle.mrp_master_data.specs.Table.{Table, IsPair}
use Rattle.mrp_master_data.specs.declared.numbers.PairNo.{PairNo}
use Rattle.mrp_net.specs.declared.edge.Edge.{Edge}
use Rattle.mrp_net.specs.Edges.{demanders}
use Rattle.mrp_net.specs.Suppliers.{suppliers}
use Rattle.mrp_loops.specs.Taking.{is_in, waiting_edges, edge_count}
use Rattle.mrp_net.proofs.Members.{In}
use Rattle.mrp_loops.proofs.Counts.{count-cons, count_split, count_all, count-zero, count-some}
use Rattle.mrp_loops.proofs.Edges.{count_between}

-- ---- pairs in a list

or_false : (b : Bool) → (b || (false || false)) ≡ b
or_false true = refl
or_false false = refl

pub is_in-push : (pairs : List PairNo) (y : PairNo) (x : ℕ) → is_in (pairs ++ y ∷ []) x ≡ (is_in pairs x || ((y.0 == x) || false))
is_in-push pairs y x = list_any-append (λ (z : PairNo). z.0 == x) pairs (y ∷ [])

pub is_in-push_same : (pairs : List PairNo) (y : PairNo) (x : ℕ) → y.0 ≡ x → is_in (pairs ++ y ∷ []) x ≡ true
is_in-push_same pairs y x e =
    is_in-push pairs y x ∙ or_right (is_in pairs x) _ (or_left (y.0 == x) false (eq-eqb y.0 x e))

pub is_in-push_other : (pairs : List PairNo) (y : PairNo) (x : ℕ) → (y.0 ≡ x → ⊥) → is_in (pairs ++ y ∷ []) x ≡ is_in pairs x
is_in-push_other pairs y x ne =
    let f : (y.0 == x) ≡ false = ne_eqb y.0 x ne in
    is_in-push pairs y x ∙ (rw f (or_false (is_in pairs x)))

pub is_in-at : (pairs : List PairNo) (k : ℕ) (d : PairNo) → k < length pairs → is_in pairs (get_or pairs k d).0 ≡ true
is_in-at pairs k d l = list_any_at (λ (z : PairNo). z.0 == (get_or pairs k d).0) pairs k d l (eq-eqb _ (get_or pairs k d).0 refl)

not_not : (b : Bool) → not b ≡ false → b ≡ true
not_not true e = refl
not_not false e = absurd (true≢false e)

not_true : (b : Bool) → not b ≡ true → b ≡ false
not_true true e = absurd (true≢false (sym e))
not_true false e = refl

-- ---- edges from pairs that aren't taken away

pub waiting-none : (N : Table) (x : ℕ) → waiting_edges N [] x ≡ length (demanders N x)
unfolding waiting_edges
waiting-none N x = count_all (demanders N x)

pub edges_to-none : (x : ℕ) → edge_count [] x ≡ 0
unfolding edge_count
edges_to-none x = refl

pub edges_to-cons : (e : Edge) (es : List Edge) (x : ℕ) → edge_count (e ∷ es) x ≡ cond (e.pair.0 == x) 1 0 + edge_count es x
unfolding edge_count
edges_to-cons e es x = count-cons (λ (w : Edge). w.pair.0 == x) e es

less_one : (a b c : Bool) (y d : ℕ) → (a ≡ true → (y == d) ≡ false) → b ≡ (a || ((y == d) || false)) → c ≡ (d == y)
    → cond (not a) 1 0 ≡ cond (not b) 1 0 + cond c 1 0
less_one true b c y d apart is at =
    let f : (d == y) ≡ false = let g = apart refl in grind (arith, nat_tests) in
    rw (is, at, f) refl
less_one false b c y d apart is at = ⊎_elim
    (λ e. let f : (d == y) ≡ true = eq-eqb d y (sym e) in let g : (y == d) ≡ true = eq-eqb y d e in rw (is, at, f, g) refl)
    (λ ne. let f : (d == y) ≡ false = ne_eqb d y (λ e. ne (sym e)) in let g : (y == d) ≡ false = ne_eqb y d ne in rw (is, at, f, g) refl)
    (cases_eq y d)

pub waiting-more : (N : Table) (done : List PairNo) (y : PairNo) (x : ℕ) → IsPair N y.0 → IsPair N x → is_in done y.0 ≡ false
    → waiting_edges N done x ≡ waiting_edges N (done ++ y ∷ []) x + edge_count (suppliers N y.0) x
unfolding waiting_edges edge_count
waiting-more N done y x from to new =
    let parts = count_split (λ (e : Edge). not (is_in done e.demander.0)) (λ (e : Edge). not (is_in (done ++ y ∷ []) e.demander.0))
    (λ (e : Edge). e.demander.0 == y.0)
    (λ e. less_one (is_in done e.demander.0) (is_in (done ++ y ∷ []) e.demander.0) (e.demander.0 == y.0) y.0 e.demander.0
    (λ t. ne_eqb y.0 e.demander.0 (λ same. both_ways (is_in done y.0) new (ap (is_in done) same ∙ t)))
    (is_in-push done y e.demander.0) refl)
    (demanders N x) in
    parts ∙ ap (λ n. count_by (λ (e : Edge). not (is_in (done ++ y ∷ []) e.demander.0)) (demanders N x) + n) (count_between N y.0 x from to)

pub waiting-zero : (N : Table) (done : List PairNo) (x : ℕ) (e : Edge) → waiting_edges N done x ≡ 0 → In (demanders N x) e → is_in done e.demander.0 ≡ true
unfolding waiting_edges
waiting-zero N done x e z h = not_not (is_in done e.demander.0) (count-zero (λ (w : Edge). not (is_in done w.demander.0)) (demanders N x) e z h)

pub waiting-some : (N : Table) (done : List PairNo) (x : ℕ) → 0 < waiting_edges N done x → (e : Edge) × In (demanders N x) e × (is_in done e.demander.0 ≡ false)
unfolding waiting_edges
waiting-some N done x l =
    let c = count-some (λ (w : Edge). not (is_in done w.demander.0)) (demanders N x) l in
    (c.0, c.1, not_true (is_in done c.0.demander.0) c.2)

-- ---- the queue

abbrev pub Apart : List PairNo → Type 0
Apart queue = (j k : ℕ) (d : PairNo) → j < k → k < length queue → (get_or queue j d).0 ≡ (get_or queue k d).0 → ⊥

pub Apart-push : (queue : List PairNo) (x : PairNo) → Apart queue → is_in queue x.0 ≡ false → Apart (queue ++ x ∷ [])
Apart-push queue x apart new j k d jk kl same = ⊎_elim
    (λ low. apart j k d jk low (ap (λ (z : PairNo). z.0) (sym (get_or_append_left queue (x ∷ []) d j (omega arith)))
    ∙ (same ∙ ap (λ (z : PairNo). z.0) (get_or_append_left queue (x ∷ []) d k low))))
    (λ high.
    let last : k ≡ length queue = omega (arith, length_push queue x) in
    let at = get_or_push queue x d k (sym last) in
    let before = get_or_append_left queue (x ∷ []) d j (omega arith) in
    let found = is_in-at queue j d (omega arith) in
    both_ways (is_in queue x.0) new (ap (is_in queue) (sym (ap (λ (z : PairNo). z.0) (sym before) ∙ (same ∙ ap (λ (z : PairNo). z.0) at))) ∙ found))
    (cases_lt k (length queue))

below_from_any : (queue : List PairNo) (n q : ℕ) → All (λ z. z.0 < n) queue → list_any (λ y. q == y) (map (λ (z : PairNo). z.0) queue) ≡ true → q < n
below_from_any [] n q below h = absurd (true≢false (sym h))
below_from_any (x ∷ xs) n q below h = ⊎_elim
    (λ t. let e = eqb-true q x.0 t in let l = All-head (λ (z : PairNo). z.0 < n) x xs below in omega arith)
    (λ r. below_from_any xs n q (All-tail (λ (z : PairNo). z.0 < n) x xs below) r)
    (or_cases (q == x.0) (list_any (λ y. q == y) (map (λ (z : PairNo). z.0) xs)) h)

-- pairs of the table with no two equal are no more than the table has
pub length-apart : (queue : List PairNo) (n : ℕ) → Apart queue → All (λ z. z.0 < n) queue → length queue ≤ n
length-apart queue n apart below =
    let numbers = map (λ (z : PairNo). z.0) queue in
    let no_pair : PairNo = record { 0 = 0 } in
    let distinct = IsDistinct-from_apart (λ (a b : ℕ). a == b) numbers (λ i j d ij jl. ne_eqb _ _ (λ same.
    let long : j < length queue = omega (arith, length-map queue (λ (z : PairNo). z.0)) in
    apart i j no_pair ij long
    (sym (get_or-map (λ (z : PairNo). z.0) queue i no_pair d (omega arith)) ∙ (same ∙ get_or-map (λ (z : PairNo). z.0) queue j no_pair d long)))) in
    let small = length-le_from_distinct_below numbers n distinct (λ q h. below_from_any queue n q below h) in
    omega (arith, length-map queue (λ (z : PairNo). z.0))
