-- The bound: what each pair may need over the whole horizon.
use Rattle.std.specs.Prelude.{◌≡◌, ℕ, ◌+◌, ◌*◌, ◌≤◌, List, length, sum_by, slice_index}
use Rattle.mrp_qty.specs.declared.quantity.TheConstants.{MOST}
use Rattle.mrp_lot.specs.Lot.{rule_quantities}
use Rattle.mrp_master_data.specs.Table.{Table, IsPair}
use Rattle.mrp_net.specs.Edges.{demanders, edge_most}
use Rattle.mrp_net.specs.FirmOrders.{firm_total}
use Rattle.mrp_net.specs.Policies.{policy_of}
use Rattle.mrp_net.specs.Sums.{pair_at, demand_total, supply}

-- the quantities of a pair's lot rule, and LEAST and MULTIPLE of its policy: what they may order beyond a requirement
abbrev pub quantities_at : Table → ℕ → ℕ
quantities_at N x = rule_quantities (pair_at N x).rule + (policy_of N x).least + (policy_of N x).multiple

-- what the orders of a pair over the whole horizon can't exceed, its demanders' being given: its demand rows, what its
-- demanders ask, safety stock, what its lot rule and its policy may order beyond a requirement, and what its firm
-- planned orders release. Shares don't lessen it, and for each piece a demander asks the most that its bill row or one
-- of its usage rows says
abbrev pub need_at : Table → List ℕ → ℕ → ℕ
need_at N needs x =
    demand_total N x + sum_by (λ e. edge_most N e * slice_index needs e.demander.0) (demanders N x)
    + (pair_at N x).safety + quantities_at N x + firm_total N x

-- the need of each pair
pub record AreNeeds (N : Table) (needs : List ℕ) : Type 0 where
  pub size : length needs ≡ length N.pairs
  pub need : (x : ℕ) → IsPair N x → slice_index needs x ≡ need_at N needs x

-- supply and need together stay within 10^15 at every pair
abbrev pub AreWithin : Table → List ℕ → Type 0
AreWithin N needs = (x : ℕ) → IsPair N x → supply N x + slice_index needs x ≤ MOST
