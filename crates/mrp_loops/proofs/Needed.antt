-- The bound: the needs of all pairs, found in an order in which demanders come first.
use Rattle.std.proofs.Common.{◌≡◌, ◌≢◌, ℕ, zero, suc, ◌+◌, ◌-◌, ◌*◌, ◌<◌, ◌≤◌, ◌==◌, true, inl, inr, ⊎_elim, List, [], ◌∷◌, length, map, get_or, set, min, refl}
use Rattle.std.proofs.Common.{sym, ap, subst, ◌∙◌, arith, slice_index, sum_by, length-set}
use Rattle.std.proofs.lemmas.Bool.{eqb-true, cases_eq, or_cases, true≢false}
use Rattle.std.proofs.lemmas.List.{get_or_default, get_or-map, get_or-set_same, get_or-set_other, length-map}
use Rattle.std.proofs.lemmas.List.Sums.{sum_by-cons}
use Rattle.mrp_qty.specs.declared.quantity.TheConstants.{MOST}
use Rattle.mrp_master_data.specs.Table.{Table, IsPair}
use Rattle.mrp_master_data.specs.declared.numbers.PairNo.{PairNo}
use Rattle.mrp_net.specs.declared.edge.Edge.{Edge}
use Rattle.mrp_net.specs.Edges.{demanders, edge_most}
use Rattle.mrp_net.specs.FirmOrders.{firm_total}
use Rattle.mrp_net.specs.Sums.{pair_at, demand_total, supply}
use Rattle.mrp_loops.specs.Need.{need_at, quantities_at, AreNeeds, AreWithin}
use Rattle.mrp_loops.specs.Taking.{is_in}
use Rattle.mrp_loops.specs.Order.{ComesBefore, IsInCodeOrder, IsFound, IsSolved, IsFirstAbove}
use Rattle.mrp_loops.specs.Planning.{IsPlanningOrder}
use Rattle.mrp_loops.specs.BoundFaults.{AreSuppliesWithin, IsNeedTooLarge, IsNeedFault, IsBoundFault}
use Rattle.mrp_loops.specs.declared.sized.BoundFault.{BoundFault}
use Rattle.mrp_loops.specs.declared.sized.BoundFault.TheVariants.{SupplyTooLarge, NeedTooLarge, Memory}
use Rattle.mrp_loops.proofs.Orders.{before_in_order, pair_placed, pairs_apart, pair_place, demander_place}
use Rattle.mrp_net.proofs.Members.{In}

sum_agree : {X : Type 0} (f g : X → ℕ) (xs : List X) → ((x : X) → In xs x → f x ≡ g x) → sum_by f xs ≡ sum_by g xs
sum_agree f g [] each = refl
sum_agree f g (x ∷ xs) each =
    let ih = sum_agree f g xs (λ y h. each y (inr h)) in
    omega (arith, sum_by-cons f x xs, sum_by-cons g x xs, each x (inl refl))

-- a need looks at the needs of the demanders alone
pub need_agrees : (N : Table) (a b : List ℕ) (x : ℕ) → ((e : Edge) → In (demanders N x) e → slice_index a e.demander.0 ≡ slice_index b e.demander.0)
    → need_at N a x ≡ need_at N b x
need_agrees N a b x each =
    let asked = sum_agree (λ (e : Edge). edge_most N e * slice_index a e.demander.0) (λ (e : Edge). edge_most N e * slice_index b e.demander.0) (demanders N x)
    (λ e h. ap (λ (n : ℕ). edge_most N e * n) (each e h)) in
    ap (λ (n : ℕ). demand_total N x + n + (pair_at N x).safety + quantities_at N x + firm_total N x) asked

-- where a pair of a list stands
pub place_in : (pairs : List PairNo) (x : ℕ) → is_in pairs x ≡ true → (k : ℕ) × (k < length pairs) × ((d : PairNo) → (get_or pairs k d).0 ≡ x)
place_in [] x t = absurd (true≢false (sym t))
place_in (z ∷ zs) x t = ⊎_elim
    (λ here. (0, omega arith, λ d. eqb-true z.0 x here))
    (λ later. let c = place_in zs x later in (suc c.0, omega arith, c.2))
    (or_cases (z.0 == x) (is_in zs x) t)

module _ (N : Table) (order : List PairNo) (planning : IsPlanningOrder N (map (λ z. z.0) order)) where
  -- two lists that agree at the first k pairs give the pair at k, or before, one need
  pub need_same : (a b : List ℕ) (k j : ℕ) (d : PairNo) → ((i : ℕ) (d : PairNo) → i < k
      → slice_index a (get_or order i d).0 ≡ slice_index b (get_or order i d).0)
      → j ≤ k → j < length order → need_at N a (get_or order j d).0 ≡ need_at N b (get_or order j d).0
  need_same a b k j d same jk jl = need_agrees N a b (get_or order j d).0 (λ e h.
      let c = demander_place N order planning j d e jl h in
      let at = c.3 d in
      subst (λ (w : ℕ). slice_index a w ≡ slice_index b w) at (same c.0 d (omega (arith, c.1))))

  -- a pair is at its place whatever the default
  same_place : (k : ℕ) (x d : PairNo) → k < length order → (get_or order k x).0 ≡ x.0 → (get_or order k d).0 ≡ x.0
  same_place k x d kl at = ap (λ (z : PairNo). z.0) (get_or_default order k d x kl) ∙ at

  -- a write at the pair at k leaves the needs of the pairs before
  pub needs_kept : (k : ℕ) (needs : List ℕ) (x : PairNo) (value : ℕ) → k < length order → (get_or order k x).0 ≡ x.0
      → (j : ℕ) (d : PairNo) → j < k → slice_index (set needs x.0 value) (get_or order j d).0 ≡ slice_index needs (get_or order j d).0
  needs_kept k needs x value kl at j d jk =
      get_or-set_other needs x.0 (get_or order j d).0 value 0 (λ e. pairs_apart N order planning j k d jk kl (e ∙ sym (same_place k x d kl at)))

  need_written : (k : ℕ) (needs : List ℕ) (x : PairNo) (value : ℕ) → k < length order → (get_or order k x).0 ≡ x.0 → IsFound N order k needs
      → slice_index (set needs x.0 value) x.0 ≡ value
  need_written k needs x value kl at f =
      let pair : IsPair N x.0 = subst (λ (w : ℕ). IsPair N w) at (pair_placed N order planning k x kl) in
      get_or-set_same needs x.0 value 0 (omega (arith, f.size))

  -- one need more is found
  pub found_more : (k : ℕ) (needs : List ℕ) (x : PairNo) (value : ℕ) → k < length order → (get_or order k x).0 ≡ x.0
      → value ≡ need_at N needs x.0 → IsFound N order k needs → IsFound N order (k + 1) (set needs x.0 value)
  found_more k needs x value kl at is f =
      let kept = needs_kept k needs x value kl at in
      let after = set needs x.0 value in
      record {
        size = length-set needs x.0 value ∙ f.size;
        solved = λ j d jk. ⊎_elim
            (λ same.
            let where_is : (get_or order j d).0 ≡ x.0 = ap (λ (i : ℕ). (get_or order i d).0) same ∙ same_place k x d kl at in
            let local = need_same after needs k k x kept (omega arith) kl in
            let local' : need_at N after x.0 ≡ need_at N needs x.0 = subst (λ (w : ℕ). need_at N after w ≡ need_at N needs w) at local in
            subst (λ (w : ℕ). slice_index after w ≡ need_at N after w) (sym where_is) (need_written k needs x value kl at f ∙ (is ∙ sym local')))
            (λ ne.
            let ne' : j ≢ k = ne in
            let before : j < k = omega arith in
            kept j d before ∙ (f.solved j d before ∙ sym (need_same after needs k j d kept (omega arith) (omega arith))))
            (cases_eq j k);
      }

  -- and it is within the bound
  pub solved_more : (k : ℕ) (needs : List ℕ) (x : PairNo) (value : ℕ) → k < length order → (get_or order k x).0 ≡ x.0
      → value ≡ need_at N needs x.0 → supply N x.0 + value ≤ MOST → IsSolved N order k needs → IsSolved N order (k + 1) (set needs x.0 value)
  solved_more k needs x value kl at is low s =
      let kept = needs_kept k needs x value kl at in
      let here = need_written k needs x value kl at s.are_found in
      let after = set needs x.0 value in
      record {
        are_found = found_more k needs x value kl at is s.are_found;
        within = λ j d jk. ⊎_elim
            (λ same.
            let where_is : (get_or order j d).0 ≡ x.0 = ap (λ (i : ℕ). (get_or order i d).0) same ∙ same_place k x d kl at in
            subst (λ (w : ℕ). supply N w + slice_index after w ≤ MOST) (sym where_is) (omega arith))
            (λ ne.
            let ne' : j ≢ k = ne in
            let before : j < k = omega arith in
            omega (arith, kept j d before, s.within j d before))
            (cases_eq j k);
      }

  pub solved_none : (needs : List ℕ) → length needs ≡ length N.pairs → IsSolved N order 0 needs
  solved_none needs size = record {
    are_found = record { size = size; solved = λ j d l. absurd (omega arith) };
    within = λ j d l. omega arith;
  }

  pub needs_from_found : (k : ℕ) (needs : List ℕ) → length order ≤ k → IsFound N order k needs → AreNeeds N needs
  needs_from_found k needs all f = record {
    size = f.size;
    need = λ x pair.
        let no_pair : PairNo = record { 0 = 0 } in
        let c = pair_place N order planning x pair in
        subst (λ (w : ℕ). slice_index needs w ≡ need_at N needs w) (c.2 no_pair) (f.solved c.0 no_pair (omega (arith, c.1)));
  }

  pub within_from_solved : (k : ℕ) (needs : List ℕ) → length order ≤ k → IsSolved N order k needs → AreWithin N needs
  within_from_solved k needs all s x pair =
      let no_pair : PairNo = record { 0 = 0 } in
      let c = pair_place N order planning x pair in
      subst (λ (w : ℕ). supply N w + slice_index needs w ≤ MOST) (c.2 no_pair) (s.within c.0 no_pair (omega (arith, c.1)))

  -- the needs of all pairs, which are those that are found at the first pairs
  abbrev pub AllNeeds : ℕ → List ℕ → Type 0
  AllNeeds k needs = (all : List ℕ) × AreNeeds N all × ((j : ℕ) (d : PairNo) → j < k
      → slice_index all (get_or order j d).0 ≡ slice_index needs (get_or order j d).0)

  pub needs_extended : (m k : ℕ) (needs : List ℕ) → m + k ≡ length order → IsFound N order k needs → AllNeeds k needs
  needs_extended zero k needs size f = (needs, needs_from_found k needs (omega arith) f, λ j d l. refl)
  needs_extended (suc m) k needs size f =
      let no_pair : PairNo = record { 0 = 0 } in
      let x : PairNo = get_or order k no_pair in
      let kl : k < length order = omega arith in
      let at : (get_or order k x).0 ≡ x.0 = ap (λ (z : PairNo). z.0) (get_or_default order k x no_pair kl) in
      let value = need_at N needs x.0 in
      let more = needs_extended m (k + 1) (set needs x.0 value) (omega arith) (found_more k needs x value kl at refl f) in
      (more.0, more.1, λ j d l. more.2 j d (omega arith) ∙ needs_kept k needs x value kl at j d l)

-- a sum with a cap that stays below a bound below the cap is exact
pub cap_exact : (cap most supply need s n t : ℕ) → most < cap → s ≡ min supply cap → n ≡ min need cap → t ≡ min (s + n) cap → t ≤ most
    → (n ≡ need) × (supply + n ≤ most)
cap_exact cap most supply need s n t small es en et low = (omega arith, omega arith)

-- the first pair above the bound in the order of the codes
pub need_too_large : (N : Table) (codes : List ℕ) (order : List PairNo) (x : PairNo) → IsInCodeOrder codes (map (λ z. z.0) order)
    → IsPlanningOrder N (map (λ z. z.0) order)
    → ((y : ℕ) → IsPair N y → supply N y ≤ MOST) → IsFirstAbove N order x → IsNeedTooLarge N codes x.0
need_too_large N codes order x by_code planning supplies first =
    let k = first.place in
    let needs = first.needs in
    let numbers = map (λ (z : PairNo). z.0) order in
    let size = length-map order (λ (z : PairNo). z.0) in
    let all = needs_extended N order planning (length order - k) k needs (let l = first.short in omega arith) first.solved.are_found in
    let same = need_same N order planning all.0 needs k k x all.2 (omega arith) first.short in
    let same' : need_at N all.0 x.0 ≡ need_at N needs x.0 = subst (λ (w : ℕ). need_at N all.0 w ≡ need_at N needs w) first.at same in
    let pair : IsPair N x.0 = subst (λ (w : ℕ). IsPair N w) first.at (pair_placed N order planning k x first.short) in
    let is = all.1.need x.0 pair in
    let at_x : slice_index numbers k ≡ x.0 = get_or-map (λ (z : PairNo). z.0) order k x 0 first.short ∙ first.at in
    record {
      pair = pair;
      supplies = supplies;
      needs = all.0;
      are_needs = all.1;
      above = omega (arith, first.above);
      first = λ y pair_y before.
          let no_pair : PairNo = record { 0 = 0 } in
          let place = pair_place N order planning y pair_y in
          let at_y : slice_index numbers place.0 ≡ y = get_or-map (λ (z : PairNo). z.0) order place.0 no_pair 0 place.1 ∙ place.2 no_pair in
          let P : ℕ → Type 0 = λ w. ComesBefore codes w (slice_index numbers k) in
          let Q : ℕ → Type 0 = λ w. ComesBefore codes y w in
          let early : place.0 < k = before_in_order codes numbers by_code place.0 k (let l = place.1 in omega arith) (let l =
          first.short in omega arith) (subst P (sym at_y) (subst Q (sym at_x) before)) in
          let within = first.solved.within place.0 no_pair early in
          let kept = all.2 place.0 no_pair early in
          subst (λ (w : ℕ). supply N w + slice_index all.0 w ≤ MOST) (place.2 no_pair) (omega (arith, within, kept));
    }

pub bound_fault : (N : Table) (codes : List ℕ) (order : List PairNo) → IsInCodeOrder codes (map (λ z. z.0) order) → IsPlanningOrder N (map (λ z. z.0) order)
    → AreSuppliesWithin N → (fault : BoundFault) → IsNeedFault N order fault → IsBoundFault N codes fault
bound_fault N codes order by_code planning supplies (SupplyTooLarge x) h = absurd h
bound_fault N codes order by_code planning supplies (NeedTooLarge x) h = need_too_large N codes order x by_code planning supplies h
bound_fault N codes order by_code planning supplies Memory h = supplies
