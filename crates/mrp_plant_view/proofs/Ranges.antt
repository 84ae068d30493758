-- The view of one plant: what it says of its pairs is in range, how they are planned, their firm planned orders, and
-- how many pieces go into their parents, which are the plant's too.
use Rattle.std.proofs.Common.{◌≡◌, ℕ, ◌==◌, ◌&&◌, true, eqb, List, length, get_or, sym, ap, ◌∙◌}
use Rattle.std.specs.List.{All, filter, range_with_len}
use Rattle.std.specs.List.Sorted.{IsNonDecreasingBy}
use Rattle.std.proofs.lemmas.Bool.{and_parts, eqb-true}
use Rattle.std.proofs.lemmas.List.Elements.{All-filter, All-map, filter_passes}
use Rattle.std.proofs.lemmas.List.Kept.{IsNonDecreasingBy-filter}
use Rattle.mrp_grouping.specs.Groups.{sorted_by}
use Rattle.mrp_grouping.proofs.Kept.{sorted_rows_rise}
use Rattle.mrp_grouping.proofs.Sorting.{All-sorted_by}
use Rattle.mrp_master_data.specs.declared.rows.BillRow.{BillRow}
use Rattle.mrp_master_data.specs.declared.rows.UsageRow.{UsageRow}
use Rattle.mrp_master_data.specs.Table.{Table, IsTable, IsUsageRow, horizon, is_joined, plant_at}
use Rattle.mrp_net.specs.FirmOrders.{firms_of}
use Rattle.mrp_net.specs.Sums.{pair_at}
use Rattle.mrp_net.specs.Usages.{usages_to}
use Rattle.mrp_net.proofs.Firms.{firms_in}
use Rattle.mrp_net.proofs.Local.{plant_is}
use Rattle.mrp_net.proofs.Members.{All-in, any_some}
use Rattle.mrp_net.proofs.PolicyRows.{policy_within}
use Rattle.mrp_plant_view.specs.declared.view.PlantPair.{PlantPair}
use Rattle.mrp_plant_view.specs.Seen.{IsPlantFirm, IsPlantPolicy, IsPlantUsage}
use Rattle.mrp_plant_view.specs.View.{is_of_plant, plant_firms, plant_pair, plant_pairs, plant_rows, plant_usages}
use Rattle.mrp_plant_view.proofs.OwnEdges.{never_falls}
use Rattle.mrp_plant_view.proofs.Seeing.{is_own, own_are_of_plant}

pub policies_are : (N : Table) (plant : ℕ) → IsTable N → All (IsPlantPolicy (plant_rows N plant)) (plant_pairs N plant)
policies_are N plant is =
    let own : List ℕ = filter (is_of_plant N plant) (range_with_len 0 (length N.pairs)) in
    All-map (IsPlantPolicy (plant_rows N plant)) (plant_pair N) own
    (λ k d h. let policy = policy_within N (get_or own k d) is in
    record { fence = policy.fence; sooner = policy.sooner; cover = policy.cover; least = policy.least; multiple = policy.multiple })

pub firms_are : (N : Table) (plant : ℕ) → IsTable N → All (All (IsPlantFirm (plant_rows N plant))) (plant_firms N plant)
firms_are N plant is =
    All-map (All (IsPlantFirm (plant_rows N plant))) (λ (p : PlantPair). firms_of N p.number.0) (plant_pairs N plant)
    (λ k d h. λ i f within. let row = firms_in N (get_or (plant_pairs N plant) k d).number.0 is i f within in record { start = row.start; due = row.due })

-- ---- usage rows

-- all of the table, by rising periods, and then in order of their parents
abbrev by_period : Table → List UsageRow
by_period N = sorted_by (λ u. u.period) (horizon N) N.usages

abbrev by_parent : Table → List UsageRow
by_parent N = sorted_by (λ u. u.parent.0) (length N.pairs) (by_period N)

-- what all of them are, those of a component are
kept : (P : UsageRow → Type 0) (N : Table) (x : ℕ) → All P N.usages → All P (usages_to N x)
kept P N x all =
    All-filter (λ (u : UsageRow). u.component.0 == x) P (by_parent N)
    (All-sorted_by P (λ u. u.parent.0) (length N.pairs) (by_period N)
    (All-sorted_by P (λ u. u.period) (horizon N) N.usages all))

-- a bill row joins the parent and the component of a usage row: they are of one plant
joined_within : (N : Table) (u : UsageRow) → IsTable N → IsUsageRow N u → is_joined N u.parent.0 u.component.0 ≡ true
    → (pair_at N u.parent.0).plant.0 ≡ (pair_at N u.component.0).plant.0
joined_within N u is row joined =
    let bill = any_some (λ (b : BillRow). eqb b.parent.0 u.parent.0 && eqb b.component.0 u.component.0) N.bills joined in
    let b : BillRow = bill.0 in
    let both = and_parts (eqb b.parent.0 u.parent.0) (eqb b.component.0 u.component.0) bill.2 in
    sym (plant_is N u.parent.0 row.parent)
    ∙ sym (ap (plant_at N) (eqb-true b.parent.0 u.parent.0 both.0))
    ∙ All-in (λ (c : BillRow). plant_at N c.parent.0 ≡ plant_at N c.component.0) N.bills b is.sourced.plants bill.1
    ∙ ap (plant_at N) (eqb-true b.component.0 u.component.0 both.1)
    ∙ plant_is N u.component.0 row.component

-- the usage rows of a pair of the plant join two of its pairs
usages_to_are : (N : Table) (plant x : ℕ) → IsTable N → (pair_at N x).plant.0 ≡ plant → All (IsPlantUsage (plant_rows N plant)) (usages_to N x)
usages_to_are N plant x is of_plant = λ k d h.
    let u : UsageRow = get_or (usages_to N x) k d in
    let row : IsUsageRow N u = kept (IsUsageRow N) N x is.read.usages k d h in
    let joined : is_joined N u.parent.0 u.component.0 ≡ true = kept (λ v. is_joined N v.parent.0 v.component.0 ≡ true) N x is.sourced.usages k d h in
    let takes : u.component.0 ≡ x = eqb-true u.component.0 x (filter_passes (λ (v : UsageRow). eqb v.component.0 x) (by_parent N) k d h) in
    let here : (pair_at N u.component.0).plant.0 ≡ plant = ap (λ (z : ℕ). (pair_at N z).plant.0) takes ∙ of_plant in
    record {
      parent = is_own N plant u.parent row.parent (joined_within N u is row joined ∙ here);
      component = is_own N plant u.component row.component here;
      per = row.per;
      some = row.some;
      base = row.base;
    }

pub usages_are : (N : Table) (plant : ℕ) → IsTable N → All (All (IsPlantUsage (plant_rows N plant))) (plant_usages N plant)
usages_are N plant is =
    let P = All (IsPlantUsage (plant_rows N plant)) in
    let own : List ℕ = filter (is_of_plant N plant) (range_with_len 0 (length N.pairs)) in
    All-map P (λ (p : PlantPair). usages_to N p.number.0) (plant_pairs N plant)
    (All-map (λ (p : PlantPair). P (usages_to N p.number.0)) (plant_pair N) own
    (λ k d h. usages_to_are N plant (get_or own k d) is (own_are_of_plant N plant k d h)))

rising : (N : Table) (x : ℕ) → IsNonDecreasingBy (λ u. u.parent.0) (usages_to N x)
rising N x =
    IsNonDecreasingBy-filter (λ (u : UsageRow). u.parent.0) (λ u. u.component.0 == x) (by_parent N)
    (never_falls (λ (u : UsageRow). u.parent.0) (by_parent N) (sorted_rows_rise UsageRow (λ u. u.parent.0) (length N.pairs) (by_period N)))

pub usages_rise : (N : Table) (plant : ℕ) → All (IsNonDecreasingBy (λ u. u.parent.0)) (plant_usages N plant)
usages_rise N plant =
    All-map (IsNonDecreasingBy (λ (u : UsageRow). u.parent.0)) (λ (p : PlantPair). usages_to N p.number.0) (plant_pairs N plant)
    (λ k d h. rising N (get_or (plant_pairs N plant) k d).number.0)
