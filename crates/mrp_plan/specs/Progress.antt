-- The plan of the whole network: how far it has come, and which pair can be planned next.
use Rattle.std.specs.Prelude.{◌≡◌, ℕ, ◌+◌, ◌<◌, ◌≤◌, List, length, sum, slice_index, All}
use Rattle.mrp_qty.specs.declared.quantity.TheConstants.{MOST}
use Rattle.mrp_netting.specs.PlanRows.{PlanRows}
use Rattle.mrp_master_data.specs.Table.{Table, IsTable, IsPair, horizon}
use Rattle.mrp_net.specs.Edges.{demanders}
use Rattle.mrp_net.specs.FirmOrders.{firm_total}
use Rattle.mrp_net.specs.Sums.{pair_at, demand_total, received_total, shipped_total}
use Rattle.mrp_net.specs.Plan.{rows_at, pair_plan}
use Rattle.mrp_loops.specs.Need.{quantities_at}
use Rattle.mrp_plan.specs.Explosion.{asked_total}

-- the plan of each pair has the periods of the network
abbrev pub HavePeriods : Table → List PlanRows → Type 0
HavePeriods N table = (x : ℕ) → IsPair N x → length (rows_at table x).gross ≡ horizon N

-- the demanders of the pair have their releases, and all its quantities together are within 10^15
pub record CanBeDrafted (N : Table) (table : List PlanRows) (x : ℕ) : Type 0 where
  pub is_table : IsTable N
  pub in_table : IsPair N x
  pub size : length table ≡ length N.pairs
  pub room : length (rows_at table x).gross ≡ horizon N
  pub releases : All (λ e. length (rows_at table e.demander.0).release ≡ horizon N) (demanders N x)
  pub within : (pair_at N x).on_hand + received_total N x + shipped_total N x + firm_total N x + demand_total N x
      + asked_total N table (demanders N x) + (pair_at N x).safety + quantities_at N x ≤ MOST

-- the first k pairs of the order have their plans, whose releases are within their needs; each place
-- has room for a plan
pub record IsPlannedTo (N : Table) (needs order : List ℕ) (k : ℕ) (table : List PlanRows) : Type 0 where
  pub size : length table ≡ length N.pairs
  pub rooms : HavePeriods N table
  pub rows : (j : ℕ) → j < k → rows_at table (slice_index order j) ≡ pair_plan N table (slice_index order j)
  pub releases : (j : ℕ) → j < k → sum (rows_at table (slice_index order j)).release
      ≤ slice_index needs (slice_index order j)
