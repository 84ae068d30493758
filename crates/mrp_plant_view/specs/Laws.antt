-- The view of one plant, laws: what the plant sees is its own, and all that it needs.
use Rattle.std.specs.Prelude.{◌≡◌, ℕ, ◌==◌, if◌then◌else◌, List, map, filter, sum_by}
use Rattle.mrp_netting.specs.PlanRows.{PlanRows}
use Rattle.mrp_master_data.specs.declared.rows.UsageRow.{UsageRow}
use Rattle.mrp_master_data.specs.Table.{Table, IsTable, IsPair}
use Rattle.mrp_plant_view.specs.declared.view.PlantEdge.{PlantEdge}
use Rattle.mrp_net.specs.PlanLaws.{asked_by_bill}
use Rattle.mrp_net.specs.Plan.{release_at}
use Rattle.mrp_plant_view.specs.Seen.{IsView}
use Rattle.mrp_net.specs.Sums.{pair_at}
use Rattle.mrp_net.specs.Usages.{pieces_for, usage_in, usages_to}
use Rattle.mrp_plant_view.specs.View.{edges_to, comes_to, goes_from, lane_numbers, plant_rows}

-- what a plant sees of an accepted table says all that it needs to plan alone
abbrev pub ViewsSayEnough : Type 0
ViewsSayEnough = (N : Table) → IsTable N → (plant : ℕ) → IsView (plant_rows N plant)

-- the numbers of the lanes that it receives are those of the table's, in lane order
abbrev pub ViewsHaveLanesIn : Type 0
ViewsHaveLanesIn =
    (N : Table) (plant : ℕ) → map (λ lane. lane.number.0) (plant_rows N plant).incoming
    ≡ filter (comes_to N plant) (lane_numbers N)

-- and so are those of the lanes that it sends
abbrev pub ViewsHaveLanesOut : Type 0
ViewsHaveLanesOut =
    (N : Table) (plant : ℕ) → map (λ lane. lane.number.0) (plant_rows N plant).outgoing
    ≡ filter (goes_from N plant) (lane_numbers N)

-- of the edges that a plant sees, those to a pair are the pair's own
abbrev pub ViewsHaveParents : Type 0
ViewsHaveParents =
    (N : Table) (plant x : ℕ) → IsPair N x → (pair_at N x).plant.0 ≡ plant
    → filter (λ e. e.component.0 == x) (plant_rows N plant).edges ≡ edges_to N x

-- what a parent asks in a period by an edge: the pieces that go into its release, by the usage in force
abbrev pub asked_by_parent : List UsageRow → List PlanRows → ℕ → PlantEdge → ℕ
asked_by_parent us table t e = pieces_for (usage_in us e.parent.0 e.per t) (release_at table e.parent.0 t)

-- the edges that a plant sees ask of each of its pairs what the component rows ask of it
abbrev pub ViewsHaveBills : Type 0
ViewsHaveBills =
    (N : Table) → IsTable N → (plant x : ℕ) → IsPair N x → (pair_at N x).plant.0 ≡ plant
    → (table : List PlanRows) (t : ℕ)
    → sum_by (λ e. if e.component.0 == x then asked_by_parent (usages_to N x) table t e else 0)
    (plant_rows N plant).edges
    ≡ sum_by (asked_by_bill N table x t) N.bills
