-- The network: laws of the plan that it has. What the rows of a pair look at, from which receipts they are made, and
-- where gross requirements come from.
use Rattle.std.specs.Prelude.{◌≡◌, ℕ, ◌+◌, ◌==◌, if◌then◌else◌, List, [], sum, sum_by, All, length}
use Rattle.mrp_netting.specs.PlanRows.{PlanRows}
use Rattle.mrp_netting.specs.PlanningData.{PairData, plain, no_policy, one}
use Rattle.mrp_master_data.specs.declared.rows.BillRow.{BillRow}
use Rattle.mrp_master_data.specs.declared.rows.SourceRow.{SourceRow}
use Rattle.mrp_master_data.specs.Table.{Table, IsTable, IsPair, source_pair}
use Rattle.mrp_net.specs.Edges.{part, source_edge, demanders}
use Rattle.mrp_net.specs.Plan.{rows_at, gross, pair_plan, release_at, plan_of}
use Rattle.mrp_net.specs.FirmOrders.{firms_of, firm_start, firm_due, firm_total}
use Rattle.mrp_net.specs.Policies.{policy_of}
use Rattle.mrp_net.specs.Sums.{pair_at, params_at, row_of, demand, incoming, received, shipped}
use Rattle.mrp_net.specs.RouteLaws.{over_route, over_plants}
use Rattle.mrp_net.specs.Usages.{pieces_for, usage_in, usages_to}

-- the plan of a pair looks at the releases of its demanders alone
abbrev pub PlansLookAtDemanders : Type 0
PlansLookAtDemanders =
    (N : Table) (a b : List PlanRows) (x : ℕ)
    → All (λ e. (rows_at a e.demander.0).release ≡ (rows_at b e.demander.0).release) (demanders N x)
    → pair_plan N a x ≡ pair_plan N b x

-- a pair without a policy and firm planned orders is planned from what comes in and what is required of it
abbrev pub PlainPairs : Type 0
PlainPairs = (N : Table) (table : List PlanRows) (x : ℕ) → policy_of N x ≡ no_policy → firms_of N x ≡ []
    → pair_plan N table x ≡ one (plain (params_at N x) (row_of N (incoming N x)) (row_of N (gross N table x)))

-- all that a pair is planned from: its row and its policy, its receipts, what comes from other plants, its firm planned
-- orders, and its gross requirements
abbrev pub whole_data : Table → List PlanRows → ℕ → PairData
whole_data N table x = record {
  params = params_at N x;
  policy = policy_of N x;
  receipts = row_of N (received N x);
  arrivals = row_of N (shipped N x);
  firm_start = row_of N (firm_start N x);
  firm_due = row_of N (firm_due N x);
  gross = row_of N (gross N table x);
}

-- the plan of a pair is the one from all its receipts, whether they may be counted sooner or not
abbrev pub PlansAreOfAllReceipts : Type 0
PlansAreOfAllReceipts = (N : Table) (table : List PlanRows) (x : ℕ)
    → pair_plan N table x ≡ one (whole_data N table x)

-- by release and by due period the firm planned orders of a pair are all of them
pub record AreAllFirms (N : Table) (x : ℕ) : Type 0 where
  pub started : sum (row_of N (firm_start N x)) ≡ firm_total N x
  pub come : sum (row_of N (firm_due N x)) ≡ firm_total N x

abbrev pub FirmsAreKept : Type 0
FirmsAreKept = (N : Table) → IsTable N → (x : ℕ) → AreAllFirms N x

-- what a component row asks of a pair by the usage in force, and what a source asks of it
abbrev pub asked_by_bill : Table → List PlanRows → ℕ → ℕ → BillRow → ℕ
asked_by_bill N table x t b = if b.component.0 == x
    then pieces_for (usage_in (usages_to N x) b.parent.0 b.per t) (release_at table b.parent.0 t) else 0

abbrev pub asked_by_source : Table → List PlanRows → ℕ → ℕ → SourceRow → ℕ
asked_by_source N table x t s = if source_pair N s == x then part (source_edge N s) (release_at table s.pair.0 t) else 0

-- gross requirements are the demand rows, what is asked within the plant, and what is asked over the
-- routes on which the plant is the supplier
abbrev pub GrossIsLocalAndCalled : Type 0
GrossIsLocalAndCalled =
    (N : Table) → IsTable N → (table : List PlanRows) (x t : ℕ) → IsPair N x
    → gross N table x t
    ≡ demand N x t + sum_by (asked_by_bill N table x t) N.bills
    + over_plants N (λ customer. over_route N (asked_by_source N table x t) customer (pair_at N x).plant.0)

-- a table of plans obeys the rules at every pair
pub record Fits (N : Table) (table : List PlanRows) : Type 0 where
  pub size : length table ≡ length N.pairs
  pub rows : (x : ℕ) → IsPair N x → rows_at table x ≡ pair_plan N table x

-- so it is of a table of plans that obeys them, of which there is one where the network can be planned
abbrev pub OfPlan : Table → (List PlanRows → Type 0) → Type 0
OfPlan N says = (plans : List PlanRows) × Fits N plans × says plans

-- the plan obeys the rules at every pair, and no other table of plans does
pub record HasOnePlan (N : Table) : Type 0 where
  pub fits : Fits N (plan_of N)
  pub only : (table : List PlanRows) → Fits N table → table ≡ plan_of N
