-- Netting one pair: within which numbers its plan is made from its planning data.
use Rattle.std.specs.Prelude.{◌≡◌, ℕ, ◌+◌, ◌≤◌, ◌<◌, List, length, sum}
use Rattle.mrp_qty.specs.declared.quantity.TheConstants.{MOST}
use Rattle.mrp_qty.specs.declared.horizon.TheConstants.{LONGEST}
use Rattle.mrp_lot.specs.declared.rule.TheConstants.{LONGEST_LEAD, MOST_IN_RULE}
use Rattle.mrp_lot.specs.Lot.{IsRule, rule_quantities}
use Rattle.mrp_netting.specs.declared.planning_data.PlanningData.{PlanningData}
use Rattle.mrp_netting.specs.PlanningData.{PairData}

-- what planning data and gross requirements say together
abbrev pub data_of : PlanningData → List ℕ → PairData
data_of given gross = record {
  params = given.params;
  policy = given.policy;
  receipts = given.receipts.now;
  arrivals = given.arrivals.now;
  firm_start = given.firm_start.now;
  firm_due = given.firm_due.now;
  gross = gross;
}

-- the quantities of the lot rule and of the policy together
abbrev pub order_quantities : PairData → ℕ
order_quantities d = rule_quantities d.params.rule + d.policy.least + d.policy.multiple

-- rule and policy are in range, no row is longer than the horizon, what is firmly ordered is released, and all
-- quantities together are at most 10^15
pub record IsWithinData (d : PairData) : Type 0 where
  pub rule : IsRule d.params.rule
  pub lead : d.params.lead ≤ LONGEST_LEAD
  pub fence : d.policy.fence < length d.gross
  pub sooner : d.policy.sooner ≤ LONGEST_LEAD
  pub cover : d.policy.cover ≤ LONGEST_LEAD
  pub least : d.policy.least ≤ MOST_IN_RULE
  pub multiple : d.policy.multiple ≤ MOST_IN_RULE
  pub periods : length d.gross ≤ LONGEST
  pub receipts : length d.receipts ≤ length d.gross
  pub arrivals : length d.arrivals ≤ length d.gross
  pub firm_start : length d.firm_start ≤ length d.gross
  pub firm_due : length d.firm_due ≤ length d.gross
  pub firm : sum d.firm_start ≡ sum d.firm_due
  pub total : d.params.on_hand + sum d.receipts + sum d.arrivals + sum d.firm_due + sum d.gross + d.params.safety
      + order_quantities d ≤ MOST
