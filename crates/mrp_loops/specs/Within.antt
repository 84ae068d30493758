-- The bound on the plan of a sized network: what the need of a pair covers.
use Rattle.std.specs.Prelude.{ℕ, ◌+◌, ◌≤◌, List, sum, sum_by, slice_index, All, Contains}
use Rattle.std.specs.List.{range_with_len}
use Rattle.mrp_qty.specs.declared.quantity.TheConstants.{MOST}
use Rattle.mrp_netting.specs.PlanRows.{PlanRows}
use Rattle.mrp_netting.specs.Bound.{IsWithin}
use Rattle.mrp_netting.specs.PlanningBound.{IsWithinData}
use Rattle.mrp_master_data.specs.declared.rows.SourceRow.{SourceRow}
use Rattle.mrp_master_data.specs.Table.{Table, IsPair, horizon}
use Rattle.mrp_net.specs.declared.lane.Lane.{Lane}
use Rattle.mrp_net.specs.Edges.{part, source_edge}
use Rattle.mrp_net.specs.Lanes.{customer_of, supplier_of, item_of_source, taken_over, figure, shipped_from, opening}
use Rattle.mrp_net.specs.FirmOrders.{firm_total}
use Rattle.mrp_net.specs.Plan.{rows_at, release_at, pair_data, plan_of}
use Rattle.mrp_net.specs.PlanLaws.{Fits}
use Rattle.mrp_net.specs.Sums.{pair_at, params_at, supply}
use Rattle.mrp_loops.specs.Need.{AreNeeds, quantities_at}
use Rattle.mrp_loops.specs.Sized.{IsSized}

-- in a table of plans that fits, the releases of all periods, firm and planned, are within the pair's need
abbrev pub ReleasesAreWithinNeed : Type 0
ReleasesAreWithinNeed =
    (N : Table) → IsSized N → (needs : List ℕ) → AreNeeds N needs → (table : List PlanRows) → Fits N table → (x : ℕ)
    → IsPair N x
    → sum (rows_at table x).release ≤ slice_index needs x

-- and so are gross requirements of all periods, safety stock, the quantities of rule and policy and firm planned orders
-- together
abbrev pub GrossIsWithinNeed : Type 0
GrossIsWithinNeed =
    (N : Table) → IsSized N → (needs : List ℕ) → AreNeeds N needs → (table : List PlanRows) → Fits N table → (x : ℕ)
    → IsPair N x
    → sum (rows_at table x).gross + (pair_at N x).safety + quantities_at N x + firm_total N x
    ≤ slice_index needs x

-- what a pair has without any planned order and all its releases are together within 10^15
abbrev pub SupplyAndReleasesAreWithin : Type 0
SupplyAndReleasesAreWithin =
    (N : Table) → IsSized N → (table : List PlanRows) → Fits N table → (x : ℕ) → IsPair N x
    → supply N x + sum (rows_at table x).release ≤ MOST

-- so no cumulative figure passes 10^15: what a plant had shipped to the pair, its shipments on their
-- way, and all releases
abbrev pub FiguresAreWithin : Type 0
FiguresAreWithin =
    (N : Table) → IsSized N → (table : List PlanRows) → Fits N table → (x supplier : ℕ) → IsPair N x
    → figure N x supplier + shipped_from N x supplier + sum (rows_at table x).release ≤ MOST

-- on hand, what comes in, gross requirements, safety stock and the rule's quantities of each pair are
-- together within 10^15
abbrev pub PlansAreWithin : Type 0
PlansAreWithin =
    (N : Table) → IsSized N → (table : List PlanRows) → Fits N table → (x : ℕ) → IsPair N x
    → IsWithin (params_at N x) (rows_at table x).incoming (rows_at table x).gross

-- so is what each pair is planned from: receipts, arrivals, firm planned orders, gross requirements, and the quantities
-- of rule and policy
abbrev pub DataAreWithin : Type 0
DataAreWithin =
    (N : Table) → IsSized N → (table : List PlanRows) → Fits N table → (x : ℕ) → IsPair N x
    → IsWithinData (pair_data N table x)

-- each quantity and balance of the rows is within 10^15
pub record IsSmallPlan (rows : PlanRows) : Type 0 where
  pub gross : All (λ quantity. quantity ≤ MOST) rows.gross
  pub incoming : All (λ quantity. quantity ≤ MOST) rows.incoming
  pub order : All (λ quantity. quantity ≤ MOST) rows.order
  pub release : All (λ quantity. quantity ≤ MOST) rows.release
  pub available : All (λ quantity. quantity ≤ MOST) rows.available

-- and so are those of each pair's rows
abbrev pub QuantitiesAreWithin : Type 0
QuantitiesAreWithin =
    (N : Table) → IsSized N → (table : List PlanRows) → Fits N table → (x : ℕ) → IsPair N x
    → IsSmallPlan (rows_at table x)

-- ---- the plan

-- the rows of a pair in the plan of the network
abbrev pub plan_at : Table → ℕ → PlanRows
plan_at N x = rows_at (plan_of N) x

-- what the bound says of them
pub record IsPlanWithin (N : Table) (needs : List ℕ) (x : ℕ) : Type 0 where
  pub together : IsWithin (params_at N x) (plan_at N x).incoming (plan_at N x).gross
  pub given : IsWithinData (pair_data N (plan_of N) x)
  pub releases : sum (plan_at N x).release ≤ slice_index needs x
  pub supply : supply N x + sum (plan_at N x).release ≤ MOST
  pub each : IsSmallPlan (plan_at N x)

-- in the plan of a sized network on hand, receipts, gross requirements, safety stock and the quantities of rule and
-- policy of each pair are together within 10^15, and its releases within its need
abbrev pub PlanIsWithin : Type 0
PlanIsWithin = (N : Table) → IsSized N → (needs : List ℕ) → AreNeeds N needs → (x : ℕ) → IsPair N x
    → IsPlanWithin N needs x

-- ---- lanes

-- the parts that a source takes of its pair's releases, of all periods
abbrev pub parts_of : Table → List PlanRows → SourceRow → ℕ
parts_of N table s = sum_by (λ t. part (source_edge N s) (release_at table s.pair.0 t)) (range_with_len 0 (horizon N))

-- over a lane the figure with which an item begins and all parts of the plan's releases of it are
-- together within 10^15
abbrev pub LaneFiguresAreWithin : Type 0
LaneFiguresAreWithin =
    (N : Table) → IsSized N → (lane : Lane) (s : SourceRow)
    → Contains (taken_over N (customer_of lane) (supplier_of lane)) s
    → opening N lane (item_of_source N s) + parts_of N (plan_of N) s ≤ MOST
