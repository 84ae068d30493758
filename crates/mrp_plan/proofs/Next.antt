-- The plan of the whole network: the next pair of the planning order, as the plan goes over the pairs.
use Rattle.std.proofs.Common.{◌≡◌, ℕ, ◌+◌, ◌<◌, List, ◌++◌, length, take, drop, map, slice_index, slice_index_or, slice_set, sym, ap, ◌∙◌, subst, arith}
use Rattle.std.proofs.lemmas.List.{append-nil, drop_all, get_or-map, length-map, take_all}
use Rattle.mrp_netting.specs.PlanRows.{PlanRows}
use Rattle.mrp_master_data.specs.Table.{Table}
use Rattle.mrp_master_data.specs.declared.numbers.PairNo.{PairNo}
use Rattle.mrp_net.specs.Plan.{pair_plan, rows_at}
use Rattle.mrp_net.specs.PlanLaws.{Fits}
use Rattle.mrp_loops.specs.Need.{AreNeeds}
use Rattle.mrp_loops.specs.Sized.{IsSized}
use Rattle.mrp_loops.specs.Planning.{IsPlanningOrder}
use Rattle.mrp_plan.specs.Progress.{CanBeDrafted, IsPlannedTo}
use Rattle.mrp_loops.proofs.Orders.{place_in_table}
use Rattle.mrp_loops.proofs.Within.{needs_within}
use Rattle.mrp_plan.proofs.Planning.{can_plan, next_kept, next_planned}

-- the pairs before place k of `pairs` have their plans in `table`; `M` is the network that was read
module _ (N M : Table) (needs : List ℕ) (pairs : List PairNo) (k : ℕ) (table : List PlanRows) (same : M ≡ N) (sized : IsSized N) (are_needs : AreNeeds N needs)
    (is : IsPlanningOrder N (map (λ (x : PairNo). x.0) pairs)) (within : k < length pairs)
    (planned : IsPlannedTo N needs (map (λ (x : PairNo). x.0) pairs) k table) where
  abbrev order : List ℕ
  order = map (λ (x : PairNo). x.0) pairs

  abbrev next : ℕ
  next = (slice_index_or pairs k (record { 0 = 0 })).0

  next_within : k < length order
  next_within = omega (arith, within, length-map pairs (λ (x : PairNo). x.0))

  next_at : slice_index order k ≡ next
  next_at = get_or-map (λ (x : PairNo). x.0) pairs k (record { 0 = 0 }) 0 within

  pub next_can : CanBeDrafted M table next
  next_can =
      let can : CanBeDrafted N table (slice_index order k) = can_plan N needs order k table sized.table are_needs
      (needs_within N sized needs are_needs) is next_within planned in
      subst (λ (n : Table). CanBeDrafted n table next) (sym same) (subst (CanBeDrafted N table) next_at can)

  -- the plan of the pair is in the table already
  pub next_fits : Fits N table → rows_at table next ≡ pair_plan M table next
  next_fits fits =
      let here : rows_at table (slice_index order k) ≡ pair_plan N table (slice_index order k) =
      fits.rows (slice_index order k) (place_in_table N order is k next_within) in
      subst (λ (n : Table). rows_at table next ≡ pair_plan n table next) (sym same) (subst (λ (x : ℕ). rows_at table x ≡ pair_plan N table x) next_at here)

  pub planned_more : rows_at table next ≡ pair_plan M table next → IsPlannedTo N needs order (k + 1) table
  planned_more kept =
      let here : rows_at table (slice_index order k) ≡ pair_plan N table (slice_index order k) =
      subst (λ (x : ℕ). rows_at table x ≡ pair_plan N table x) (sym next_at) (subst (λ (n : Table). rows_at table next ≡ pair_plan n table next) same kept) in
      next_kept N needs order k table sized.table are_needs (needs_within N sized needs are_needs) is next_within planned here

  -- the plan of the pair is put there
  pub planned_with : (after : List PlanRows) → after ≡ slice_set table next (pair_plan M table next) → IsPlannedTo N needs order (k + 1) after
  planned_with after set =
      let put : after ≡ slice_set table (slice_index order k) (pair_plan N table (slice_index order k)) =
      set
      ∙ ap (λ (n : Table). slice_set table next (pair_plan n table next)) same
      ∙ ap (λ (x : ℕ). slice_set table x (pair_plan N table x)) (sym next_at) in
      subst (IsPlannedTo N needs order (k + 1)) (sym put) (next_planned N needs order k table sized.table are_needs
      (needs_within N sized needs are_needs) is next_within planned)

-- a whole list that was handed out and came back
pub handed_back : {X : Type 0} (len : ℕ) (xs ys : List X) → length xs ≡ len → length ys ≡ length xs → take len (ys ++ drop (length ys) xs) ≡ ys
handed_back {X} len xs ys size same =
    ap (λ (zs : List X). take len (ys ++ zs)) (drop_all (length ys) xs (omega (arith, same))) ∙ ap (take len) (append-nil ys)
    ∙ take_all len ys (omega (arith, size, same))
