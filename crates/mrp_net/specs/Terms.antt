-- The network: what planners say of one of its pairs.
use Rattle.std.specs.Prelude.{ℕ, List, map}
use Rattle.std.specs.List.{range_with_len}
use Rattle.mrp_netting.specs.declared.params.PairParams.{PairParams}
use Rattle.mrp_netting.specs.declared.planning_data.Policy.{Policy}
use Rattle.mrp_netting.specs.PlanningData.{PairTerms}
use Rattle.mrp_master_data.specs.declared.rows.FirmRow.{FirmRow}
use Rattle.mrp_net.specs.declared.terms.PlanningTerms.{PlanningTerms}
use Rattle.mrp_net.specs.FirmOrders.{starting_in, due_in}

-- what its row says, its policy, the receipts that may be counted sooner than they come, and its firm planned orders
-- by release and by due period, over so many periods
abbrev pub terms_of : ℕ → PairParams → Policy → List ℕ → List FirmRow → PairTerms
terms_of periods params policy receipts orders = record {
  params = params;
  policy = policy;
  receipts = receipts;
  firm_start = map (starting_in orders) (range_with_len 0 periods);
  firm_due = map (due_in orders) (range_with_len 0 periods);
}

-- the same as a network gives them
abbrev pub terms_given : ℕ → PlanningTerms → PairTerms
terms_given periods given = terms_of periods given.params given.policy given.receipts.now given.orders.now
