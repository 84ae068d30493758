-- Netting one pair: within which numbers its plan is made.
use Rattle.std.specs.Prelude.{◌≡◌, ℕ, ◌+◌, ◌≤◌, List, length, sum}
use Rattle.mrp_qty.specs.declared.quantity.TheConstants.{MOST}
use Rattle.mrp_lot.specs.declared.rule.TheConstants.{LONGEST_LEAD}
use Rattle.mrp_netting.specs.declared.params.PairParams.{PairParams}
use Rattle.mrp_lot.specs.Lot.{IsRule, rule_quantities}

-- the rule is in range, the rows are of one horizon, and all quantities together are at most 10^15
pub record IsWithin (pair : PairParams) (incoming gross : List ℕ) : Type 0 where
  pub rule : IsRule pair.rule
  pub lead : pair.lead ≤ LONGEST_LEAD
  pub periods : length incoming ≡ length gross
  pub total : pair.on_hand + sum incoming + sum gross + pair.safety + rule_quantities pair.rule ≤ MOST
