-- Low-level codes: a network without loops has them. No chain is as long as the table has
-- pairs, so each pair has a longest.
use Rattle.std.proofs.Common.{◌≡◌, ℕ, zero, suc, ◌+◌, ◌<◌, ◌≤◌, Bool, true, false, cond, ⊎_elim, List, [], ◌∷◌, ◌++◌, map, reverse, length, refl, sym, ap}
use Rattle.std.proofs.Common.{subst, ◌∙◌, arith, All, slice_index}
use Rattle.std.specs.List.{list_any, range_with_len}
use Rattle.std.proofs.lemmas.Bool.{cases_Bool, cases_lt, both_ways, or_left, or_right, cond-true, cond-false}
use Rattle.std.proofs.lemmas.List.{length_push}
use Rattle.std.proofs.lemmas.List.Elements.{All-push, All-nil}
use Rattle.std.proofs.lemmas.List.FromFn.{get_or-map-range_with_len, length-map-range_with_len}
use Rattle.mrp_master_data.specs.Table.{Table, IsTable, IsPair}
use Rattle.mrp_master_data.specs.declared.numbers.PairNo.{PairNo}
use Rattle.mrp_net.specs.declared.edge.Edge.{Edge}
use Rattle.mrp_net.specs.Edges.{demanders}
use Rattle.mrp_loops.specs.Loop.{HasEdge, IsLoopFree}
use Rattle.mrp_loops.specs.Codes.{HasChain}
use Rattle.mrp_loops.specs.Taking.{is_in}
use Rattle.mrp_loops.proofs.Climbing.{Climbs}
use Rattle.mrp_loops.specs.Walk.{IsApart}
use Rattle.mrp_loops.specs.Laws.{CodesExist}
use Rattle.mrp_net.proofs.Members.{In, any_some}
use Rattle.mrp_loops.proofs.Edges.{demanders_edge, demanders_only, HasEdge-from_in, HasEdge-pairs}
use Rattle.mrp_loops.proofs.Needed.{place_in}
use Rattle.mrp_loops.proofs.Rings.{climbs_more, path_short, ring_from_walk}
use Rattle.mrp_loops.proofs.Taken.{Apart-push}

-- whether a chain of so many edges ends in x
abbrev has_chain : Table → ℕ → ℕ → Bool
has_chain N x zero = true
has_chain N x (suc n) = list_any (λ e. has_chain N e.demander.0 n) (demanders N x)

any_at : {X : Type 0} (p : X → Bool) (xs : List X) (x : X) → In xs x → p x ≡ true → list_any p xs ≡ true
any_at p [] x h t = absurd h
any_at p (y ∷ ys) x h t = ⊎_elim
    (λ e. or_left (p y) (list_any p ys) (ap p e ∙ t))
    (λ r. or_right (p y) (list_any p ys) (any_at p ys x r t))
    h

chain_passes : (N : Table) → IsTable N → (n x : ℕ) → HasChain N x n → has_chain N x n ≡ true
chain_passes N table zero x h = refl
chain_passes N table (suc n) x h =
    let e = demanders_edge N table h.0 x h.1 in
    any_at (λ (e : Edge). has_chain N e.demander.0 n) (demanders N x) e.0 e.1 (ap (λ (y : ℕ). has_chain N y n) e.2 ∙ chain_passes N table n h.0 h.2)

chain_from_test : (N : Table) (n x : ℕ) → has_chain N x n ≡ true → HasChain N x n
chain_from_test N zero x t = tt
chain_from_test N (suc n) x t =
    let e = any_some (λ (e : Edge). has_chain N e.demander.0 n) (demanders N x) t in
    let only = demanders_only N x e.0 e.1 in
    (e.0.demander.0, HasEdge-from_in N e.0 e.0.demander.0 x only.0 refl only.1, chain_from_test N n e.0.demander.0 e.2)

module _ (N : Table) (table : IsTable N) (free : IsLoopFree N) where
  -- a chain and a path below it visit each pair once
  chain_short : (n : ℕ) (x : PairNo) (path : List PairNo) → All (λ z. IsPair N z.0) path → IsPair N x.0 → IsApart path
      → is_in path x.0 ≡ false → Climbs (HasEdge N) x.0 (reverse path) → HasChain N x.0 n → n + length path < length N.pairs
  chain_short zero x path pairs pair apart new climbs chain =
      let short = path_short N path x pairs pair apart new in omega arith
  chain_short (suc n) x path pairs pair apart new climbs chain =
      let y : PairNo = record { 0 = chain.0 } in
      let path' = path ++ x ∷ [] in
      let apart' = Apart-push path x apart new in
      let climbs' = climbs_more (HasEdge N) path x y climbs chain.1 in
      ⊎_elim
      (λ again.
      let c = place_in path' y.0 again in
      absurd (free _ (ring_from_walk (HasEdge N) path' y c.0 c.1 (c.2 y) climbs' apart').round))
      (λ new'.
      let rest = chain_short n y path' (All-push (λ (z : PairNo). IsPair N z.0) path x pairs pair)
      (HasEdge-pairs N table y.0 x.0 chain.1).0 apart' new' climbs' chain.2 in
      omega (arith, length_push path x))
      (cases_Bool (is_in path' y.0))

  pub chain_below : (x n : ℕ) → IsPair N x → HasChain N x n → n < length N.pairs
  chain_below x n pair chain =
      let this : PairNo = record { 0 = x } in
      let short = chain_short n this [] (All-nil (λ (z : PairNo). IsPair N z.0)) pair (λ j k d jk kl e. omega arith) refl tt chain in
      omega arith

-- the longest chain of at most k edges
abbrev longest : Table → ℕ → ℕ → ℕ
longest N x zero = 0
longest N x (suc k) = cond (has_chain N x (suc k)) (suc k) (longest N x k)

longest_is : (N : Table) (x k : ℕ) → has_chain N x (longest N x k) ≡ true
longest_is N x zero = refl
longest_is N x (suc k) = ⊎_elim
    (λ t. ap (λ (b : Bool). has_chain N x (cond b (suc k) (longest N x k))) t ∙ t)
    (λ f. ap (λ (b : Bool). has_chain N x (cond b (suc k) (longest N x k))) f ∙ longest_is N x k)
    (cases_Bool (has_chain N x (suc k)))

longest_most : (N : Table) (x k m : ℕ) → m ≤ k → has_chain N x m ≡ true → m ≤ longest N x k
longest_most N x zero m l t = omega arith
longest_most N x (suc k) m l t = ⊎_elim
    (λ here. rw (cond-true (has_chain N x (suc k)) (suc k) (longest N x k) here) l)
    (λ f. rw (cond-false (has_chain N x (suc k)) (suc k) (longest N x k) f) (⊎_elim
    (λ low. longest_most N x k m (omega arith) t)
    (λ high.
    let same : m ≡ suc k = omega arith in
    absurd (both_ways (has_chain N x (suc k)) f (ap (has_chain N x) (sym same) ∙ t)))
    (cases_lt m (suc k))))
    (cases_Bool (has_chain N x (suc k)))

pub codes_exist : CodesExist
codes_exist N table free =
    let n = length N.pairs in
    let codes = map (λ x. longest N x n) (range_with_len 0 n) in (
      codes,
      record {
        size = length-map-range_with_len (λ x. longest N x n) 0 n;
        code = λ x pair.
            let at : slice_index codes x ≡ longest N x n = get_or-map-range_with_len (λ x. longest N x n) 0 n x x 0 pair (omega arith) in
            record {
              chain = subst (λ (m : ℕ). HasChain N x m) (sym at) (chain_from_test N (longest N x n) x (longest_is N x n));
              longest = λ m chain.
                  let short = chain_below N table free x m pair chain in
                  let most = longest_most N x n m (omega arith) (chain_passes N table m x chain) in
                  omega arith;
            };
      },
    )
