-- Reach: the whole periods of all pairs, found in an order in which demanders come first.
use Rattle.std.proofs.Common.{◌≡◌, ◌≢◌, ℕ, ◌+◌, ◌<◌, ◌≤◌, ⊎_elim, List, length, map, get_or, set, min, drop}
use Rattle.std.proofs.Common.{sym, ap, subst, ◌∙◌, arith, slice_index, length-set, add-one, drop-cons}
use Rattle.std.proofs.lemmas.Bool.{cases_eq}
use Rattle.std.proofs.lemmas.List.Elements.{Contains-get_or}
use Rattle.std.proofs.lemmas.List.{drop_all, get_or_default, get_or-set_same, get_or-set_other}
use Rattle.mrp_master_data.specs.Table.{Table, IsPair}
use Rattle.mrp_master_data.specs.declared.numbers.PairNo.{PairNo}
use Rattle.mrp_net.specs.declared.edge.Edge.{Edge}
use Rattle.mrp_net.specs.Edges.{demanders}
use Rattle.mrp_net.proofs.Members.{In-from_contains}
use Rattle.mrp_loops.specs.Planning.{IsPlanningOrder}
use Rattle.mrp_loops.proofs.Orders.{demander_place, pair_place, pair_placed, pairs_apart}
use Rattle.mrp_reach.specs.Reach.{AreWhole, least, releases_whole, whole_at}
use Rattle.mrp_reach.proofs.WholePeriods.{whole_at-same}

-- how many periods of the releases of an edge's demander are whole
abbrev pub released : Table → List ℕ → Edge → ℕ
released N wholes e = releases_whole N e.demander.0 (slice_index wholes e.demander.0)

-- the least so far and the numbers that are left make the least of all, one number further
pub least_next : {X : Type 0} (f : X → ℕ) (xs : List X) (d : X) (k whole value next most : ℕ) → k < length xs → value ≡ f (get_or xs k d)
    → next ≡ min whole value → least whole (map f (drop k xs)) ≡ most → least next (map f (drop (k + 1) xs)) ≡ most
least_next {X} f xs d k whole value next most short is least_is so_far =
    let here : next ≡ min whole (f (get_or xs k d)) = least_is ∙ ap (min whole) is in
    ap (λ (n : ℕ). least n (map f (drop (k + 1) xs))) here
    ∙ ap (λ (i : ℕ). least (min whole (f (get_or xs k d))) (map f (drop i xs))) (add-one k)
    ∙ ap (λ (ys : List X). least whole (map f ys)) (sym (drop-cons xs k d short))
    ∙ so_far

-- and where none are left
pub least_all : {X : Type 0} (f : X → ℕ) (xs : List X) (k whole most : ℕ) → length xs ≤ k → least whole (map f (drop k xs)) ≡ most → whole ≡ most
least_all {X} f xs k whole most past so_far = ap (λ (ys : List X). least whole (map f ys)) (sym (drop_all k xs past)) ∙ so_far

-- those of the first pairs of an order are found
pub record IsFoundTo (N : Table) (order : List PairNo) (found : ℕ) (wholes : List ℕ) : Type 0 where
  pub size : length wholes ≡ length N.pairs
  pub solved : (j : ℕ) (d : PairNo) → j < found → slice_index wholes (get_or order j d).0 ≡ whole_at N wholes (get_or order j d).0

module _ (N : Table) (order : List PairNo) (planning : IsPlanningOrder N (map (λ z. z.0) order)) where
  -- where two lists agree at the pairs before k, the whole periods of the pairs up to k by them are the same
  whole_same : (a b : List ℕ) (k j : ℕ) (d : PairNo) → ((i : ℕ) (d : PairNo) → i < k → slice_index a (get_or order i d).0 ≡ slice_index b (get_or order i d).0)
      → j ≤ k → j < length order → whole_at N a (get_or order j d).0 ≡ whole_at N b (get_or order j d).0
  whole_same a b k j d same jk jl = whole_at-same N a b (get_or order j d).0 (λ i no_edge h.
      let es = demanders N (get_or order j d).0 in
      let e : Edge = get_or es i no_edge in
      let c = demander_place N order planning j d e jl (In-from_contains es e (Contains-get_or es i no_edge h)) in
      let at = c.3 d in
      subst (λ (w : ℕ). slice_index a w ≡ slice_index b w) at (same c.0 d (omega (arith, c.1))))

  same_place : (k : ℕ) (x d : PairNo) → k < length order → (get_or order k x).0 ≡ x.0 → (get_or order k d).0 ≡ x.0
  same_place k x d kl at = ap (λ (z : PairNo). z.0) (get_or_default order k d x kl) ∙ at

  -- a write at the pair at k leaves the pairs before
  wholes_kept : (k : ℕ) (wholes : List ℕ) (x : PairNo) (value : ℕ) → k < length order → (get_or order k x).0 ≡ x.0
      → (j : ℕ) (d : PairNo) → j < k → slice_index (set wholes x.0 value) (get_or order j d).0 ≡ slice_index wholes (get_or order j d).0
  wholes_kept k wholes x value kl at j d jk =
      get_or-set_other wholes x.0 (get_or order j d).0 value 0 (λ e. pairs_apart N order planning j k d jk kl (e ∙ sym (same_place k x d kl at)))

  -- one pair more is found
  pub found_more : (k : ℕ) (wholes : List ℕ) (x : PairNo) (value : ℕ) → k < length order → (get_or order k x).0 ≡ x.0
      → value ≡ whole_at N wholes x.0 → IsFoundTo N order k wholes → IsFoundTo N order (k + 1) (set wholes x.0 value)
  found_more k wholes x value kl at is f =
      let kept = wholes_kept k wholes x value kl at in
      let after = set wholes x.0 value in
      let pair : IsPair N x.0 = subst (λ (w : ℕ). IsPair N w) at (pair_placed N order planning k x kl) in
      let written : slice_index after x.0 ≡ value = get_or-set_same wholes x.0 value 0 (omega (arith, f.size)) in
      record {
        size = length-set wholes x.0 value ∙ f.size;
        solved = λ j d jk. ⊎_elim
            (λ same.
            let where_is : (get_or order j d).0 ≡ x.0 = ap (λ (i : ℕ). (get_or order i d).0) same ∙ same_place k x d kl at in
            let local = whole_same after wholes k k x kept (omega arith) kl in
            let local' : whole_at N after x.0 ≡ whole_at N wholes x.0 = subst (λ (w : ℕ). whole_at N after w ≡ whole_at N wholes w) at local in
            subst (λ (w : ℕ). slice_index after w ≡ whole_at N after w) (sym where_is) (written ∙ (is ∙ sym local')))
            (λ ne.
            let ne' : j ≢ k = ne in
            let before : j < k = omega arith in
            kept j d before ∙ (f.solved j d before ∙ sym (whole_same after wholes k j d kept (omega arith) (omega arith))))
            (cases_eq j k);
      }

  pub found_none : (wholes : List ℕ) → length wholes ≡ length N.pairs → IsFoundTo N order 0 wholes
  found_none wholes size = record { size = size; solved = λ j d l. absurd (omega arith) }

  pub whole_from_found : (k : ℕ) (wholes : List ℕ) → length order ≤ k → IsFoundTo N order k wholes → AreWhole N wholes
  whole_from_found k wholes all f = record {
    size = f.size;
    whole = λ x pair.
        let no_pair : PairNo = record { 0 = 0 } in
        let c = pair_place N order planning x pair in
        subst (λ (w : ℕ). slice_index wholes w ≡ whole_at N wholes w) (c.2 no_pair) (f.solved c.0 no_pair (omega (arith, c.1)));
  }
