-- The plan of the whole network, with one more pair planned.
use Rattle.std.proofs.Common.{◌≡◌, ℕ, ◌+◌, ◌*◌, ◌<◌, ◌≤◌, ◌≢◌, List, [], ◌∷◌, length, sum, sum_by, slice_index, slice_index_or, slice_set, suc, arith, refl, ap}
use Rattle.std.proofs.Common.{sym, ◌∙◌, ⊎_elim, subst}
use Rattle.std.proofs.lemmas.Bool.{cases_eq}
use Rattle.std.proofs.lemmas.List.{get_or_default, get_or-set_same, get_or-set_other, length-set}
use Rattle.std.proofs.lemmas.List.FromFn.{fill_by_all, get_or-map-range_with_len, length-map-range_with_len}
use Rattle.std.proofs.lemmas.List.Sums.{sum_by-cons}
use Rattle.std.proofs.Math.Nat.{mul-le-mul_left}
use Rattle.mrp_netting.specs.PlanRows.{PlanRows}
use Rattle.mrp_netting.specs.PlanningData.{planned, one}
use Rattle.mrp_netting.specs.PlanningBound.{IsWithinData}
use Rattle.mrp_netting.proofs.DataRows.{releases_stay_bounded}
use Rattle.mrp_netting.proofs.OneRows.{length-one-release, one-gross as of_data}
use Rattle.mrp_qty.proofs.RangeLaws.{map-range-same}
use Rattle.mrp_master_data.specs.Table.{Table, IsTable, horizon}
use Rattle.mrp_net.specs.Edges.{demanders, edge_most, edge_need}
use Rattle.mrp_net.specs.FirmOrders.{firm_total}
use Rattle.mrp_net.specs.Sums.{demand, incoming, terms_at, pair_at, row_of}
use Rattle.mrp_net.specs.Plan.{rows_at, no_rows, gross, pair_data, pair_plan, asked}
use Rattle.mrp_net.specs.PlanLaws.{Fits}
use Rattle.mrp_net.specs.declared.edge.Edge.{Edge}
use Rattle.mrp_loops.specs.Need.{AreNeeds, AreWithin, quantities_at}
use Rattle.mrp_loops.specs.Planning.{IsPlanningOrder}
use Rattle.mrp_plan.specs.Explosion.{asked_total}
use Rattle.mrp_plan.specs.Progress.{CanBeDrafted, HavePeriods, IsPlannedTo}
use Rattle.mrp_loops.proofs.Within.{data_is_within}
use Rattle.mrp_net.proofs.Firms.{firms_are_kept}
use Rattle.mrp_net.proofs.Totals.{gross_sum-le}
use Rattle.mrp_plan.proofs.Asked.{no_edge}
use Rattle.mrp_loops.proofs.Orders.{places_apart, place_in_table, place_in_order, demander_before}

-- sums of terms that are the same, or not greater, at each element
sum_by-same_all : {X : Type 0} (f g : X → ℕ) (d : X) (xs : List X) → ((i : ℕ) → i < length xs → f (slice_index_or xs i d) ≡ g (slice_index_or xs i d))
    → sum_by f xs ≡ sum_by g xs
sum_by-same_all f g d [] same = refl
sum_by-same_all f g d (x ∷ xs) same =
    let here : f x ≡ g x = same 0 (omega arith) in
    omega (arith, here, sum_by-cons f x xs, sum_by-cons g x xs, sum_by-same_all f g d xs (λ i h. same (suc i) (omega arith)))

sum_by-le_all : {X : Type 0} (f g : X → ℕ) (d : X) (xs : List X) → ((i : ℕ) → i < length xs → f (slice_index_or xs i d) ≤ g (slice_index_or xs i d))
    → sum_by f xs ≤ sum_by g xs
sum_by-le_all f g d [] less = omega arith
sum_by-le_all f g d (x ∷ xs) less =
    let here : f x ≤ g x = less 0 (omega arith) in
    omega (arith, here, sum_by-cons f x xs, sum_by-cons g x xs, sum_by-le_all f g d xs (λ i h. less (suc i) (omega arith)))

-- the plan of a pair looks at the releases of its demanders alone
pub pair_plan-same : (N : Table) (old new : List PlanRows) (x : ℕ)
    → ((i : ℕ) → i < length (demanders N x) → rows_at new (slice_index_or (demanders N x) i no_edge).demander.0
    ≡ rows_at old (slice_index_or (demanders N x) i no_edge).demander.0)
    → pair_plan N new x ≡ pair_plan N old x
pair_plan-same N old new x same =
    let asks = λ (t : ℕ) (i : ℕ) (h : i < length (demanders N x)).
    ap (λ (r : PlanRows). edge_need N (slice_index_or (demanders N x) i no_edge) t (slice_index r.release t)) (same i h) in
    let each = λ (t : ℕ) (h : t < horizon N).
    ap (λ (s : ℕ). demand N x t + s)
    (sum_by-same_all (λ (e : Edge). edge_need N e t (slice_index (rows_at new e.demander.0).release t))
    (λ (e : Edge). edge_need N e t (slice_index (rows_at old e.demander.0).release t)) no_edge (demanders N x) (asks t)) in
    ap (λ (row : List ℕ). one (planned (terms_at N x) (row_of N (incoming N x)) row)) (map-range-same (gross N new x) (gross N old x) (horizon N) each)

-- the plan of a pair has a release for each period, and its gross requirements
pub pair_plan-release : (N : Table) (table : List PlanRows) (x : ℕ) → length (pair_plan N table x).release ≡ horizon N
pair_plan-release N table x =
    length-one-release (pair_data N table x) ∙ length-map-range_with_len (gross N table x) 0 (horizon N)

pub one-gross : (N : Table) (table : List PlanRows) (x : ℕ) → (pair_plan N table x).gross ≡ row_of N (gross N table x)
one-gross N table x = of_data (pair_data N table x)

-- its releases together are within what safety, rule and policy, the gross requirements and firm planned orders ask
pub pair_plan-releases : (N : Table) (table : List PlanRows) (x : ℕ) → IsTable N → IsWithinData (pair_data N table x)
    → sum (pair_plan N table x).release
    ≤ (pair_at N x).safety + quantities_at N x + sum (row_of N (gross N table x)) + firm_total N x
pair_plan-releases N table x is within =
    omega (arith, releases_stay_bounded (pair_data N table x) within, (firms_are_kept N is x).started)

-- what the demanders ask is within what they need
pub asked_total-le : (N : Table) (needs order : List ℕ) (k : ℕ) (table : List PlanRows) → IsPlanningOrder N order → k < length order
    → IsPlannedTo N needs order k table
    → asked_total N table (demanders N (slice_index order k))
    ≤ sum_by (λ e. edge_most N e * slice_index needs e.demander.0) (demanders N (slice_index order k))
asked_total-le N needs order k table is within planned =
    let x = slice_index order k in
    sum_by-le_all (λ (e : Edge). edge_most N e * sum (rows_at table e.demander.0).release)
    (λ (e : Edge). edge_most N e * slice_index needs e.demander.0) no_edge (demanders N x)
    (λ i h.
    let e = slice_index_or (demanders N x) i no_edge in
    let before = demander_before N order is k within i no_edge h in
    let own = planned.releases before.0 before.1 in
    let P : ℕ → Type 0 = λ y. sum (rows_at table y).release ≤ slice_index needs y in
    mul-le-mul_left (edge_most N e) (subst P before.2 own))

-- the demander of an edge to the next pair has a row of releases
pub demander_release : (N : Table) (needs order : List ℕ) (k : ℕ) (table : List PlanRows) → IsPlanningOrder N order → k < length order
    → IsPlannedTo N needs order k table
    → (i : ℕ) → i < length (demanders N (slice_index order k)) → length
    (rows_at table (slice_index_or (demanders N (slice_index order k)) i no_edge).demander.0).release ≡ horizon N
demander_release N needs order k table is within planned i h =
    let before = demander_before N order is k within i no_edge h in
    let P : ℕ → Type 0 = λ y. length (rows_at table y).release ≡ horizon N in
    subst P before.2 (ap (λ (r : PlanRows). length r.release) (planned.rows before.0 before.1) ∙ pair_plan-release N table (slice_index order before.0))

-- a row has a quantity for each period
pub length-row_of : (N : Table) (amount : ℕ → ℕ) → length (row_of N amount) ≡ horizon N
length-row_of N amount = length-map-range_with_len amount 0 (horizon N)

-- what a pair that can be planned is planned from is within the bound
pub pair_within : (N : Table) (table : List PlanRows) (x : ℕ) → CanBeDrafted N table x → IsWithinData (pair_data N table x)
pair_within N table x can =
    data_is_within N table x can.is_table can.in_table (omega (arith, gross_sum-le N table x can.is_table, can.within))

-- demand rows and what the demanders ask are the gross requirements
pub gross_row : (N : Table) (table : List PlanRows) (x : ℕ) (row : List ℕ) → length row ≡ length (row_of N (demand N x))
    → ((t : ℕ) → t < length (row_of N (demand N x)) → slice_index row t ≡ slice_index (row_of N (demand N x)) t + asked N table (demanders N x) t)
    → row ≡ row_of N (gross N table x)
gross_row N table x row size each =
    let periods = length-row_of N (demand N x) in
    fill_by_all (gross N table x) row (horizon N) 0 (size ∙ periods)
    (λ t h.
    let own : slice_index (row_of N (demand N x)) t ≡ demand N x t = get_or-map-range_with_len (demand N x) 0 (horizon N) t t 0 h (omega arith) in
    omega (arith, own, each t (omega (arith, periods))))

-- the pair at place k can be planned
pub can_plan : (N : Table) (needs order : List ℕ) (k : ℕ) (table : List PlanRows) → IsTable N → AreNeeds N needs → AreWithin N needs → IsPlanningOrder N order
    → k < length order
    → IsPlannedTo N needs order k table → CanBeDrafted N table (slice_index order k)
can_plan N needs order k table tables are_needs are_within is within planned =
    let x = slice_index order k in
    let in_table = place_in_table N order is k within in
    record {
      is_table = tables;
      in_table = in_table;
      size = planned.size;
      room = planned.rooms x in_table;
      releases = λ i d h.
          let read : slice_index_or (demanders N x) i no_edge ≡ slice_index_or (demanders N x) i d = get_or_default (demanders N x) i no_edge d h in
          ap (λ (e : Edge). length (rows_at table e.demander.0).release) (sym read) ∙ demander_release N needs order k table is within planned i h;
      within = omega (arith, are_within x in_table, are_needs.need x in_table, asked_total-le N needs order k table is within planned);
    }

-- with its plan kept, one more pair is planned
pub IsPlannedTo-more : (N : Table) (needs order : List ℕ) (k : ℕ) (table : List PlanRows) (rows : PlanRows) → IsPlanningOrder N order → k < length order
    → IsPlannedTo N needs order k table
    → rows ≡ pair_plan N table (slice_index order k) → sum rows.release ≤ slice_index needs (slice_index order k)
    → IsPlannedTo N needs order (k + 1) (slice_set table (slice_index order k) rows)
IsPlannedTo-more N needs order k table rows is within planned plan releases =
    let x = slice_index order k in
    let new = slice_set table x rows in
    let room : length (pair_plan N table x).gross ≡ horizon N = ap (λ (r : List ℕ). length r) (one-gross N table x) ∙ length-row_of N (gross N table x) in
    let in_table : x < length table = omega (arith, place_in_table N order is k within, planned.size) in
    let at_x : rows_at new x ≡ rows = get_or-set_same table x rows no_rows in_table in
    let elsewhere = λ (y : ℕ) (ne : y ≢ x). let e : rows_at new y ≡ rows_at table y = get_or-set_other table x y rows no_rows ne in e in
    let earlier = λ (j : ℕ) (h : j < k). elsewhere (slice_index order j) (places_apart N order is j k h within) in
    let demanders_stay = λ (j : ℕ) (h : j ≤ k) (i : ℕ) (edge : i < length (demanders N (slice_index order j))).
    let before = demander_before N order is j (omega arith) i no_edge edge in
    let P : ℕ → Type 0 = λ y. rows_at new y ≡ rows_at table y in
    subst P before.2 (earlier before.0 (omega (arith, before.1))) in
    let stays = λ (j : ℕ) (h : j ≤ k). pair_plan-same N table new (slice_index order j) (demanders_stay j h) in
    record {
      size = length-set table x rows ∙ planned.size;
      rooms = λ y in_net.
          ⊎_elim
          (λ (e : y ≡ x). ap (λ (z : ℕ). length (rows_at new z).gross) e ∙ ap (λ (r : PlanRows). length r.gross) (at_x ∙ plan) ∙ room)
          (λ (ne : y ≡ x → ⊥). ap (λ (r : PlanRows). length r.gross) (elsewhere y ne) ∙ planned.rooms y in_net)
          (cases_eq y x);
      rows = λ j h.
          ⊎_elim
          (λ (e : j ≡ k).
          let here : rows_at new x ≡ pair_plan N new x = at_x ∙ plan ∙ sym (stays k (omega arith)) in
          subst (λ (i : ℕ). rows_at new (slice_index order i) ≡ pair_plan N new (slice_index order i)) (sym e) here)
          (λ (ne : j ≡ k → ⊥). let before : j < k = omega arith in earlier j before ∙ planned.rows j before ∙ sym (stays j (omega arith)))
          (cases_eq j k);
      releases = λ j h.
          ⊎_elim
          (λ (e : j ≡ k).
          let here : sum (rows_at new x).release ≤ slice_index needs x = omega (arith, releases, ap (λ (r : PlanRows). sum r.release) at_x) in
          subst (λ (i : ℕ). sum (rows_at new (slice_index order i)).release ≤ slice_index needs (slice_index order i)) (sym e) here)
          (λ (ne : j ≡ k → ⊥).
          let before : j < k = omega arith in
          omega (arith, planned.releases j before, ap (λ (r : PlanRows). sum r.release) (earlier j before)))
          (cases_eq j k);
    }

-- the releases of the plan beside the plans so far are within the need
next_releases : (N : Table) (needs order : List ℕ) (k : ℕ) (table : List PlanRows) → IsTable N → AreNeeds N needs → AreWithin N needs → IsPlanningOrder N order
    → k < length order
    → IsPlannedTo N needs order k table → sum (pair_plan N table (slice_index order k)).release ≤ slice_index needs (slice_index order k)
next_releases N needs order k table tables are_needs are_within is within planned =
    let x = slice_index order k in
    let can = can_plan N needs order k table tables are_needs are_within is within planned in
    let total = gross_sum-le N table x tables in
    omega (
      arith,
      pair_plan-releases N table x tables (pair_within N table x can),
      total,
      are_needs.need x can.in_table,
      asked_total-le N needs order k table is within
          planned,
    )

-- the same with the plan beside the plans so far
pub next_planned : (N : Table) (needs order : List ℕ) (k : ℕ) (table : List PlanRows) → IsTable N → AreNeeds N needs → AreWithin N needs
    → IsPlanningOrder N order → k < length order
    → IsPlannedTo N needs order k table
    → IsPlannedTo N needs order (k + 1) (slice_set table (slice_index order k) (pair_plan N table (slice_index order k)))
next_planned N needs order k table tables are_needs are_within is within planned =
    IsPlannedTo-more N needs order k table (pair_plan N table (slice_index order k)) is within planned refl
    (next_releases N needs order k table tables are_needs are_within is within planned)

-- a table that has the plan of the next pair already
pub next_kept : (N : Table) (needs order : List ℕ) (k : ℕ) (table : List PlanRows) → IsTable N → AreNeeds N needs → AreWithin N needs → IsPlanningOrder N order
    → k < length order
    → IsPlannedTo N needs order k table → rows_at table (slice_index order k) ≡ pair_plan N table (slice_index order k)
    → IsPlannedTo N needs order (k + 1) table
next_kept N needs order k table tables are_needs are_within is within planned kept =
    let x = slice_index order k in
    let releases : sum (rows_at table x).release ≤ slice_index needs x =
    omega (arith, ap (λ (r : PlanRows). sum r.release) kept, next_releases N needs order k table tables are_needs are_within is within planned) in
    record {
      size = planned.size;
      rooms = planned.rooms;
      rows = λ j h.
          ⊎_elim
          (λ (e : j ≡ k). subst (λ (i : ℕ). rows_at table (slice_index order i) ≡ pair_plan N table (slice_index order i)) (sym e) kept)
          (λ (ne : j ≡ k → ⊥). planned.rows j (omega arith))
          (cases_eq j k);
      releases = λ j h.
          ⊎_elim
          (λ (e : j ≡ k). subst (λ (i : ℕ). sum (rows_at table (slice_index order i)).release ≤ slice_index needs (slice_index order i)) (sym e) releases)
          (λ (ne : j ≡ k → ⊥). planned.releases j (omega arith))
          (cases_eq j k);
    }

-- in a table that fits the plan of each pair has the periods of the network
pub fits_rooms : (N : Table) (table : List PlanRows) → Fits N table → HavePeriods N table
fits_rooms N table fits x in_table =
    ap (λ (r : PlanRows). length r.gross) (fits.rows x in_table) ∙ ap (λ (r : List ℕ). length r) (one-gross N table x) ∙ length-row_of N (gross N table x)

-- with all places of the order planned, the table fits
pub all_planned : (N : Table) (needs order : List ℕ) (k : ℕ) (table : List PlanRows) → IsPlanningOrder N order → length order ≤ k
    → IsPlannedTo N needs order k table → Fits N table
all_planned N needs order k table is whole planned = record {
  size = planned.size;
  rows = λ x in_table.
      let place = place_in_order N order is x in_table in
      let P : ℕ → Type 0 = λ y. rows_at table y ≡ pair_plan N table y in
      subst P place.2 (planned.rows place.0 (omega (arith, place.1)));
}
