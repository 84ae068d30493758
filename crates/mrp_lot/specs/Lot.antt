-- Lot rules: how much is ordered for a net requirement.
use Rattle.std.specs.Prelude.{ℕ, ◌+◌, ◌-◌, ◌*◌, ◌/◌, ◌≤◌, max}
use Rattle.mrp_lot.specs.declared.rule.Rule.{Rule}
use Rattle.mrp_lot.specs.declared.rule.Rule.TheVariants.{LotForLot, Fixed, Periods, MinMultiple}
use Rattle.mrp_lot.specs.declared.rule.TheConstants.{MOST_IN_RULE}
use Rattle.mrp_qty.specs.declared.horizon.TheConstants.{LONGEST}

-- 1 to 10^12 pieces
abbrev pub IsRuleQuantity : ℕ → Type 0
IsRuleQuantity q = (1 ≤ q) × (q ≤ MOST_IN_RULE)

-- the rule's numbers are in their ranges, and it covers so many periods at most
abbrev pub IsRuleWithin : ℕ → Rule → Type 0
IsRuleWithin longest LotForLot = Unit {0}
IsRuleWithin longest (Fixed q) = IsRuleQuantity q
IsRuleWithin longest (Periods k) = (1 ≤ k) × (k ≤ longest)
IsRuleWithin longest (MinMultiple m k) = IsRuleQuantity m × IsRuleQuantity k

-- the rule's numbers are in their ranges
abbrev pub IsRule : Rule → Type 0
IsRule rule = IsRuleWithin LONGEST rule

-- the rule's own quantities together
abbrev pub rule_quantities : Rule → ℕ
rule_quantities LotForLot = 0
rule_quantities (Fixed q) = q
rule_quantities (Periods k) = 0
rule_quantities (MinMultiple m k) = m + k

-- how many periods an order covers
abbrev pub periods_covered : Rule → ℕ
periods_covered LotForLot = 1
periods_covered (Fixed q) = 1
periods_covered (Periods k) = k
periods_covered (MinMultiple m k) = 1

-- the least multiple of q that is not below n
abbrev pub least_multiple_of : ℕ → ℕ → ℕ
least_multiple_of q n = q * ((n + (q - 1)) / q)

-- the order for a net requirement. `span` is the greatest of the net requirements over the first 1, 2, .. of the
-- periods that the order covers, each taken together; it counts under a rule of periods alone
abbrev pub lot_of : Rule → ℕ → ℕ → ℕ
lot_of LotForLot net span = net
lot_of (Fixed q) net span = least_multiple_of q net
lot_of (Periods k) net span = span
lot_of (MinMultiple m k) net span = least_multiple_of k (max net m)
