-- The loop check: a walk upstream that comes to a pair again has a loop behind it, which may begin anywhere.
use Rattle.std.proofs.Common.{◌≡◌, ◌≢◌, ℕ, ◌+◌, ◌<◌, ◌≤◌, ◌==◌, Bool, true, false, ⊎_elim, List, [], ◌∷◌, ◌++◌, map, replicate, reverse, length, get_or, set}
use Rattle.std.proofs.Common.{take, drop, refl, sym, ap, subst, ◌∙◌, arith, All, IsPermutation}
use Rattle.std.specs.List.{IsDistinct, AllPairs}
use Rattle.std.proofs.lemmas.Bool.{ne_eqb, cases_eq, both_ways, eq-eqb}
use Rattle.std.proofs.lemmas.List.{append-nil, append_assoc, map-append, reverse-append, take-append-drop, get_or-drop, get_or-map, length-map, length-drop}
use Rattle.std.proofs.lemmas.List.{drop_more, get_or_default, get_or_read, take-map, drop-map, get_or-set_same, get_or-set_other, get_or-replicate, length_push}
use Rattle.std.proofs.lemmas.List.Sorted.{IsPermutation-reverse, IsPermutation-append_comm, IsPermutation-trans, IsPermutation-map, All-permutation}
use Rattle.std.proofs.lemmas.Map.Keys.{IsDistinct-from_apart, IsDistinct-IsPermutation, apart_from_distinct}
use Rattle.mrp_master_data.specs.Table.{Table, IsTable, IsPair}
use Rattle.mrp_master_data.specs.declared.numbers.PairNo.{PairNo}
use Rattle.mrp_net.specs.declared.edge.Edge.{Edge}
use Rattle.mrp_net.specs.Edges.{demanders}
use Rattle.mrp_loops.specs.Taking.{is_in}
use Rattle.mrp_net.proofs.Members.{In-from_contains}
use Rattle.mrp_loops.proofs.Edges.{demanders_only, HasEdge-from_in, edge_pairs}
use Rattle.mrp_loops.proofs.Taken.{is_in-push_same, is_in-push_other, Apart-push, length-apart}
use Rattle.std.proofs.lemmas.List.Elements.{Contains-get_or, All-push, All-map}
use Rattle.mrp_loops.specs.Loop.{HasEdge, Leads, IsRound, IsLoop, first_or}
use Rattle.mrp_loops.specs.Upstream.{ComesFrom, IsMet, IsLoopAnswered}
use Rattle.mrp_loops.proofs.Climbing.{Climbs}
use Rattle.mrp_loops.specs.Walk.{IsApart, IsRing}

-- ---- loops turned

first_or-append : (us vs : List ℕ) (after : ℕ) → first_or (us ++ vs) after ≡ first_or us (first_or vs after)
first_or-append [] vs after = refl
first_or-append (u ∷ us) vs after = refl

Leads-split : (R : ℕ → ℕ → Type 0) (us vs : List ℕ) (after : ℕ) → Leads R (us ++ vs) after → Leads R us (first_or vs after) × Leads R vs after
Leads-split R [] vs after h = (tt, h)
Leads-split R (u ∷ us) vs after h =
    let rest = Leads-split R us vs after h.1 in
    ((subst (λ (x : ℕ). R u x) (first_or-append us vs after) h.0, rest.0), rest.1)

pub Leads-append : (R : ℕ → ℕ → Type 0) (us vs : List ℕ) (after : ℕ) → Leads R us (first_or vs after) → Leads R vs after → Leads R (us ++ vs) after
Leads-append R [] vs after h k = k
Leads-append R (u ∷ us) vs after h k =
    (subst (λ (x : ℕ). R u x) (sym (first_or-append us vs after)) h.0, Leads-append R us vs after h.1 k)

-- a round may begin anywhere
IsRound-turned : (R : ℕ → ℕ → Type 0) (us vs : List ℕ) → IsRound R (us ++ vs) → IsRound R (vs ++ us)
IsRound-turned R [] vs h = subst (λ (xs : List ℕ). IsRound R xs) (sym (append-nil vs)) h
IsRound-turned R (u ∷ us) [] h = subst (λ (xs : List ℕ). IsRound R xs) (append-nil (u ∷ us)) h
IsRound-turned R (u ∷ us) (v ∷ vs) h =
    let parts = Leads-split R (u ∷ us) (v ∷ vs) u h in
    Leads-append R (v ∷ vs) (u ∷ us) v parts.1 parts.0

-- where the walk goes there is an edge
walked_edges : (N : Table) (xs : List ℕ) (after : ℕ) → Leads (ComesFrom N) xs after → Leads (HasEdge N) xs after
walked_edges N [] after h = tt
walked_edges N (x ∷ xs) after h = (h.0.0.0, walked_edges N xs after h.1)

walked_loop : (N : Table) (xs : List ℕ) → IsRound (ComesFrom N) xs → IsLoop N xs
walked_loop N [] h = h
walked_loop N (x ∷ xs) h = walked_edges N (x ∷ xs) x h

climb_leads : (R : ℕ → ℕ → Type 0) (a : ℕ) (bs : List PairNo) (x : PairNo) (rest : List PairNo) → Climbs R a (bs ++ x ∷ rest)
    → Leads R (a ∷ map (λ z. z.0) bs) x.0
climb_leads R a [] x rest h = (h.0, tt)
climb_leads R a (b ∷ bs) x rest h = (h.0, climb_leads R b.0 bs x rest h.1)

-- the walk came back to the pair at `from`
pub ring_from_walk : (R : ℕ → ℕ → Type 0) (path : List PairNo) (x : PairNo) (from : ℕ) → from < length path → (get_or path from x).0 ≡ x.0
    → Climbs R x.0 (reverse path) → IsApart path → IsRing R (drop from path)
ring_from_walk R path x from l at climbs apart =
    let y : PairNo = get_or path from x in
    let front = take from path in
    let back = drop (from + 1) path in
    let whole : path ≡ front ++ y ∷ back = sym (take-append-drop from path) ∙ ap (λ (q : List PairNo). front ++ q) (drop_more path from x l) in
    let turned : reverse path ≡ reverse back ++ (y ∷ reverse front) =
    ap (λ (q : List PairNo). reverse q) whole ∙ (reverse-append front (y ∷ back)
    ∙ (ap (λ (q : List PairNo). q ++ reverse front) (reverse-append (y ∷ []) back) ∙ append_assoc (reverse back) (y ∷ []) (reverse front))) in
    let leads = climb_leads R x.0 (reverse back) y (reverse front) (subst (λ (q : List PairNo). Climbs R x.0 q) turned climbs) in
    let loop : IsRound R (y.0 ∷ map (λ z. z.0) (reverse back)) = subst (λ (w : ℕ). Leads R (w ∷ map (λ z. z.0) (reverse back)) y.0) (sym at) leads in
    let again = IsRound-turned R (y.0 ∷ []) (map (λ z. z.0) (reverse back)) loop in
    let list : map (λ (z : PairNo). z.0) (reverse (drop from path)) ≡ map (λ z. z.0) (reverse back) ++ y.0 ∷ [] =
    ap (λ (q : List PairNo). map (λ (z : PairNo). z.0) (reverse q)) (drop_more path from x l)
    ∙ (ap (λ (q : List PairNo). map (λ (z : PairNo). z.0) q) (reverse-append (y ∷ []) back) ∙ map-append (λ (z : PairNo). z.0) (reverse back) (y ∷ [])) in
    record {
      round = rw list again;
      apart = λ j k d jk kl same. apart (from + j) (from + k) d (omega arith) (omega (arith, length-drop from path))
          (ap (λ (z : PairNo). z.0) (sym (get_or-drop from path j d)) ∙ (same ∙ ap (λ (z : PairNo). z.0) (get_or-drop from path k d)));
    }

-- ---- the loop that is answered

distinct_from_apart : (pairs : List PairNo) → IsApart pairs → IsDistinct (λ (a b : ℕ). a == b) (map (λ z. z.0) pairs)
distinct_from_apart pairs apart =
    let no_pair : PairNo = record { 0 = 0 } in
    IsDistinct-from_apart (λ (a b : ℕ). a == b) (map (λ z. z.0) pairs) (λ i j d ij jl. ne_eqb _ _ (λ same.
    let long : j < length pairs = omega (arith, length-map pairs (λ (z : PairNo). z.0)) in
    apart i j no_pair ij long
    (sym (get_or-map (λ (z : PairNo). z.0) pairs i no_pair d (omega arith)) ∙ (same ∙ get_or-map (λ (z : PairNo). z.0) pairs j no_pair d long))))

pairs_from_distinct : (xs : List ℕ) → IsDistinct (λ (a b : ℕ). a == b) xs → AllPairs (λ x y. x ≢ y) xs
pairs_from_distinct xs distinct i j d ij jl = λ same.
    both_ways (get_or xs i d == get_or xs j d) (apart_from_distinct (λ (a b : ℕ). a == b) xs i j d distinct ij jl) (eq-eqb (get_or xs i d) (get_or xs j d) same)

eqb_flips : (x y : ℕ) → (x == y) ≡ (y == x)
eqb_flips x y = ⊎_elim
    (λ e. eq-eqb x y e ∙ sym (eq-eqb y x (sym e)))
    (λ ne. ne_eqb x y ne ∙ sym (ne_eqb y x (λ e. ne (sym e))))
    (cases_eq x y)

-- a list that is turned at its least begins with its least
turned_first : (xs : List ℕ) (k d : ℕ) → k < length xs → All (λ y. get_or xs k d ≤ y) xs
    → All (λ y. first_or (drop k xs ++ take k xs) 0 ≤ y) (drop k xs ++ take k xs)
turned_first xs k d l least =
    let moved = All-permutation (λ y. get_or xs k d ≤ y) xs (drop k xs ++ take k xs)
    (subst (λ (q : List ℕ). IsPermutation q (drop k xs ++ take k xs)) (take-append-drop k xs) (IsPermutation-append_comm (take k xs) (drop k xs))) least in
    let first : first_or (drop k xs ++ take k xs) 0 ≡ get_or xs k d = ap (λ (q : List ℕ). first_or (q ++ take k xs) 0) (drop_more xs k d l) in
    rw first moved

pub found_from_ring : (N : Table) (ring turned : List PairNo) (k : ℕ) → IsRing (ComesFrom N) ring → All (λ x. IsMet N x.0) ring → k < length (reverse ring)
    → All (λ x. (get_or (reverse ring) k x).0 ≤ x.0) (reverse ring) → turned ≡ drop k (reverse ring) ++ take k (reverse ring)
    → IsLoopAnswered N (map (λ x. x.0) turned)
found_from_ring N ring turned k is met l least eq =
    let numbers = map (λ (z : PairNo). z.0) (reverse ring) in
    let no_pair : PairNo = record { 0 = 0 } in
    let shape : map (λ (x : PairNo). x.0) turned ≡ drop k numbers ++ take k numbers =
    ap (λ (q : List PairNo). map (λ (x : PairNo). x.0) q) eq ∙ (map-append (λ (z : PairNo). z.0) (drop k (reverse ring)) (take k (reverse ring))
    ∙ (ap (λ (q : List ℕ). q ++ map (λ (z : PairNo). z.0) (take k (reverse ring))) (sym (drop-map (λ (z : PairNo). z.0) k (reverse ring)))
    ∙ ap (λ (q : List ℕ). drop k numbers ++ q) (sym (take-map (λ (z : PairNo). z.0) k (reverse ring))))) in
    let round = IsRound-turned (ComesFrom N) (take k numbers) (drop k numbers)
    (subst (λ (q : List ℕ). IsRound (ComesFrom N) q) (sym (take-append-drop k numbers)) is.round) in
    let distinct = distinct_from_apart ring is.apart in
    let moves = IsPermutation-trans (map (λ (z : PairNo). z.0) ring) numbers (drop k numbers ++ take k numbers)
    (IsPermutation-map (λ (z : PairNo). z.0) ring (reverse ring) (IsPermutation-reverse ring))
    (subst (λ (q : List ℕ). IsPermutation q (drop k numbers ++ take k numbers)) (take-append-drop k numbers)
    (IsPermutation-append_comm (take k numbers) (drop k numbers))) in
    let once = pairs_from_distinct (drop k numbers ++ take k numbers) (IsDistinct-IsPermutation (λ (a b : ℕ). a == b) eqb_flips _ _ moves distinct) in
    let long : k < length numbers = omega (arith, length-map (reverse ring) (λ (z : PairNo). z.0)) in
    let low : All (λ y. get_or numbers k 0 ≤ y) numbers = λ j d jl.
    let within : j < length (reverse ring) = omega (arith, length-map (reverse ring) (λ (z : PairNo). z.0)) in
    let at : get_or numbers k 0 ≡ (get_or (reverse ring) k no_pair).0 = get_or-map (λ (z : PairNo). z.0) (reverse ring) k no_pair 0 l in
    let at_j : get_or numbers j d ≡ (get_or (reverse ring) j no_pair).0 = get_or-map (λ (z : PairNo). z.0) (reverse ring) j no_pair d within in
    let here = least j no_pair within in
    let same : (get_or (reverse ring) k (get_or (reverse ring) j no_pair)).0 ≡ (get_or (reverse ring) k no_pair).0 =
    ap (λ (z : PairNo). z.0) (get_or_default (reverse ring) k (get_or (reverse ring) j no_pair) no_pair l) in
    omega arith in
    let numbers_met = All-map (IsMet N) (λ (z : PairNo). z.0) ring met in
    let all_met = All-permutation (IsMet N) (map (λ (z : PairNo). z.0) ring) (drop k numbers ++ take k numbers) moves numbers_met in
    record {
      found = record {
        loop = rw shape (walked_loop N (drop k numbers ++ take k numbers) round);
        once = rw shape once;
        first = rw shape (turned_first numbers k 0 long low);
      };
      walked = record { met = rw shape all_met; round = rw shape round };
    }

-- a demander that is left, by its place among the demanders
pub demander_edge : (N : Table) (x i : ℕ) (d : Edge) → i < length (demanders N x) → HasEdge N (get_or (demanders N x) i d).demander.0 x
demander_edge N x i d l =
    let e = get_or (demanders N x) i d in
    let only = demanders_only N x e (In-from_contains (demanders N x) e (Contains-get_or (demanders N x) i d l)) in
    HasEdge-from_in N e e.demander.0 x only.0 refl only.1

pub demander_within : (N : Table) (x i : ℕ) (d : Edge) → IsTable N → i < length (demanders N x) → IsPair N (get_or (demanders N x) i d).demander.0
demander_within N x i d table l =
    let e = get_or (demanders N x) i d in
    let only = demanders_only N x e (In-from_contains (demanders N x) e (Contains-get_or (demanders N x) i d l)) in
    (edge_pairs N table e only.0).0

-- what a step of the walk keeps
pub seen_more : (N : Table) (visited : List Bool) (path : List PairNo) (x : PairNo) → length visited ≡ length N.pairs → IsPair N x.0
    → ((y : ℕ) → IsPair N y → get_or visited y false ≡ is_in path y)
    → (y : ℕ) → IsPair N y → get_or (set visited x.0 true) y false ≡ is_in (path ++ x ∷ []) y
seen_more N visited path x size at seen y pair = ⊎_elim
    (λ same. subst (λ (w : ℕ). get_or (set visited x.0 true) w false ≡ is_in (path ++ x ∷ []) w) (sym same)
    (get_or-set_same visited x.0 true false (omega arith) ∙ sym (is_in-push_same path x x.0 refl)))
    (λ ne. get_or-set_other visited x.0 y true false ne ∙ (seen y pair ∙ sym (is_in-push_other path x y (λ s. ne (sym s)))))
    (cases_eq y x.0)

pub climbs_more : (R : ℕ → ℕ → Type 0) (path : List PairNo) (x z : PairNo) → Climbs R x.0 (reverse path) → R z.0 x.0 → Climbs R z.0 (reverse (path ++ x ∷ []))
climbs_more R path x z climbs edge =
    subst (λ (q : List PairNo). Climbs R z.0 q) (sym (reverse-append path (x ∷ []))) (edge, climbs)

-- a pair that isn't marked is not on the path
pub not_seen : (N : Table) (path : List PairNo) (visited : List Bool) (x : PairNo) (mark : Bool) → length visited ≡ length N.pairs
    → ((y : ℕ) → IsPair N y → get_or visited y false ≡ is_in path y) → IsPair N x.0
    → mark ≡ get_or visited x.0 mark → mark ≡ false → is_in path x.0 ≡ false
not_seen N path visited x mark size seen pair read unmarked =
    sym (seen x.0 pair) ∙ sym (get_or_read visited x.0 mark (omega (arith, size, pair)) read false) ∙ unmarked

-- a walk that is about to begin
pub none_seen : (N : Table) (visited : List Bool) (path : List PairNo) (n : ℕ) → visited ≡ replicate n false → n ≡ length N.pairs → path ≡ [] → (y : ℕ)
    → IsPair N y → get_or visited y false ≡ is_in path y
none_seen N visited path n fresh size none y pair =
    let low : y < n = omega (arith, size, pair) in
    rw (fresh, none) (get_or-replicate n y false false low)

pub Apart-none : (path : List PairNo) → path ≡ [] → IsApart path
Apart-none path none = rw none (λ j k d low far same. omega (arith, far))

-- a pair that was met
pub seen_again : (N : Table) (path : List PairNo) (visited : List Bool) (x : PairNo) (mark : Bool) → length visited ≡ length N.pairs
    → ((y : ℕ) → IsPair N y → get_or visited y false ≡ is_in path y) → IsPair N x.0
    → mark ≡ get_or visited x.0 mark → mark ≡ true → is_in path x.0 ≡ true
seen_again N path visited x mark size seen pair read marked =
    sym (seen x.0 pair) ∙ sym (get_or_read visited x.0 mark (omega (arith, size, pair)) read false) ∙ marked

-- a path is shorter than the table while the walk comes to new pairs
pub path_short : (N : Table) (path : List PairNo) (x : PairNo) → All (λ z. IsPair N z.0) path → IsPair N x.0 → IsApart path → is_in path x.0 ≡ false
    → length path < length N.pairs
path_short N path x pairs pair apart new =
    let all = All-push (λ (z : PairNo). z.0 < length N.pairs) path x pairs pair in
    let short = length-apart (path ++ x ∷ []) (length N.pairs) (Apart-push path x apart new) all in
    omega (arith, length_push path x)
