-- Netting one pair: what a lot rule orders for the needs of 1, 2, .. periods, and how it is made up.
use Rattle.std.specs.Prelude.{◌≡◌, ℕ, ◌+◌, ◌*◌, ◌/◌, ◌%◌, ◌≤◌, ◌<◌, max, min}
use Rattle.std.proofs.Common.{arith, ◌∙◌, ap}
use Rattle.mrp_lot.specs.declared.rule.Rule.{Rule}
use Rattle.mrp_lot.specs.declared.rule.Rule.TheVariants.{LotForLot, Fixed, Periods, MinMultiple}
use Rattle.mrp_lot.specs.Lot.{IsRule, rule_quantities, least_multiple_of, lot_of, periods_covered}
use Rattle.mrp_lot.proofs.LotLaws.{least_multiple-le, least_multiple-lt, least_multiple-from_div_ceil}
use Rattle.mrp_netting.specs.declared.planning_data.Policy.{Policy}
use Rattle.mrp_netting.specs.PlanningData.{no_policy, greatest, lot_for, made_up}
use Rattle.mrp_netting.proofs.Greatest.{greatest-covers, greatest-le}

-- what a lot rule orders, between the need of one period and the greatest need with the rule's quantities
pub lot_for-ge : (rule : Rule) (needs : ℕ → ℕ) → IsRule rule → needs 1 ≤ lot_for rule needs
lot_for-ge LotForLot needs is = omega arith
lot_for-ge (Fixed q) needs is = least_multiple-le (needs 1) q is.0
lot_for-ge (Periods k) needs is = greatest-covers needs 1 k (omega arith) is.0
lot_for-ge (MinMultiple m k) needs is = omega (arith, least_multiple-le (max (needs 1) m) k is.1.0)

pub lot_for-le : (rule : Rule) (needs : ℕ → ℕ) (bound : ℕ) → IsRule rule → ((k : ℕ) → needs k ≤ bound) → lot_for rule needs ≤ bound + rule_quantities rule
lot_for-le LotForLot needs bound is below = omega (arith, below 1)
lot_for-le (Fixed q) needs bound is below = omega (arith, below 1, least_multiple-lt (needs 1) q is.0)
lot_for-le (Periods k) needs bound is below = omega (arith, greatest-le needs k bound below)
lot_for-le (MinMultiple m k) needs bound is below = omega (arith, below 1, least_multiple-lt (max (needs 1) m) k is.1.0)

-- an order that is made up
pub made_up-ge : (policy : Policy) (lot : ℕ) → lot ≤ made_up policy lot
made_up-ge policy lot = omega (arith, least_multiple-le (max lot policy.least) (max policy.multiple 1) (omega arith))

pub made_up-le : (policy : Policy) (lot : ℕ) → made_up policy lot ≤ lot + policy.least + policy.multiple
made_up-le policy lot = omega (arith, least_multiple-lt (max lot policy.least) (max policy.multiple 1) (omega arith))

-- by its net requirement and the greatest needs
pub lot_for-is : (rule : Rule) (needs : ℕ → ℕ) (net : ℕ) (span : ℕ → ℕ) → needs 1 ≡ net → ((k : ℕ) → greatest needs k ≡ span k)
    → lot_for rule needs ≡ lot_of rule net (span (periods_covered rule))
lot_for-is LotForLot needs net span one_period periods = one_period
lot_for-is (Fixed q) needs net span one_period periods = ap (least_multiple_of q) one_period
lot_for-is (Periods k) needs net span one_period periods = periods k
lot_for-is (MinMultiple m k) needs net span one_period periods = ap (λ (n : ℕ). least_multiple_of k (max n m)) one_period

-- without a minimum and a multiple
pub made_up-none : (lot : ℕ) → made_up no_policy lot ≡ lot
made_up-none lot =
    let same : max lot 0 ≡ lot = omega arith in
    let once : least_multiple_of 1 lot ≡ lot = omega (arith, least_multiple-le lot 1 (omega arith), least_multiple-lt lot 1 (omega arith)) in
    ap (least_multiple_of 1) same ∙ once

pub made_up-many : (policy : Policy) (lot : ℕ) → 1 < policy.multiple
    → (max lot policy.least / policy.multiple + min 1 (max lot policy.least % policy.multiple)) * policy.multiple ≡ made_up policy lot
made_up-many policy lot many =
    let n = max lot policy.least in
    let same : policy.multiple ≡ max policy.multiple 1 = omega arith in
    least_multiple-from_div_ceil n policy.multiple (omega arith) ∙ ap (λ (k : ℕ). least_multiple_of k n) same
