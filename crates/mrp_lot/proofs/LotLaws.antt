-- Lot rules: their laws.
use Rattle.std.specs.Prelude.{◌≡◌, ℕ, ◌+◌, ◌-◌, ◌*◌, ◌/◌, ◌%◌, ◌≤◌, ◌<◌, max, min}
use Rattle.std.proofs.Common.{arith, refl, ◌∙◌, ap}
use Rattle.std.proofs.Math.Nat.{mul_comm, mul-le-mul_left}
use Rattle.std.proofs.lemmas.Nat.{le-div, div_below}
use Rattle.std.proofs.lemmas.Grind.{div_ceil_times}
use Rattle.mrp_lot.specs.declared.rule.Rule.{Rule}
use Rattle.mrp_lot.specs.declared.rule.Rule.TheVariants.{LotForLot, Fixed, Periods, MinMultiple}
use Rattle.mrp_lot.specs.Lot.{IsRule, rule_quantities, periods_covered, least_multiple_of, lot_of}
use Rattle.mrp_lot.specs.Rules.{IsLeastMultiple, LotForLotIsExact, FixedIsLeast, MinMultipleIsLeast, FixedIsSmall, MinMultipleIsSmall, LotCovers}

-- of the multiples of q from n on, the one below n + q
pub one_multiple : (n q k : ℕ) → 1 ≤ q → n ≤ k * q → k * q < n + q → k ≡ (n + (q - 1)) / q
one_multiple n q k some low high =
    let m = n + (q - 1) in
    let below = le-div k m q (omega arith) (omega arith) in
    let above = div_below m q (k + 1) (omega arith) (omega arith) in
    omega (arith, below, above)

-- a quotient rounded up, and the least multiple
pub least_multiple-from_div_ceil : (n q : ℕ) → 1 ≤ q → (n / q + min 1 (n % q)) * q ≡ least_multiple_of q n
least_multiple-from_div_ceil n q some =
    let k = n / q + min 1 (n % q) in
    let bounds = div_ceil_times n q (omega arith) in
    let same : k ≡ (n + (q - 1)) / q = one_multiple n q k some bounds.0 bounds.1 in
    mul_comm k q ∙ ap (λ m. q * m) same

pub least_multiple-le : (n q : ℕ) → 1 ≤ q → n ≤ least_multiple_of q n
least_multiple-le n q some = omega (arith, (div_ceil_times n q (omega arith)).0, least_multiple-from_div_ceil n q some)

pub least_multiple-lt : (n q : ℕ) → 1 ≤ q → least_multiple_of q n < n + q
least_multiple-lt n q some = omega (arith, (div_ceil_times n q (omega arith)).1, least_multiple-from_div_ceil n q some)

-- no smaller multiple of q is from n on
pub least_multiple-least : (n q k : ℕ) → 1 ≤ q → n ≤ q * k → least_multiple_of q n ≤ q * k
least_multiple-least n q k some covers =
    let below = div_below (n + (q - 1)) q (k + 1) (omega arith) (omega arith) in
    let count : (n + (q - 1)) / q ≤ k = omega arith in
    mul-le-mul_left q count

pub lot_for_lot-is_exact : LotForLotIsExact
lot_for_lot-is_exact net span = refl

is_least : (q n : ℕ) → 1 ≤ q → IsLeastMultiple q n (least_multiple_of q n)
is_least q n some = record {
  multiple = ((n + (q - 1)) / q, refl);
  covers = least_multiple-le n q some;
  least = λ lots h. least_multiple-least n q lots some h;
}

pub fixed-is_least : FixedIsLeast
fixed-is_least quantity net span some = is_least quantity net some

pub fixed-lt : FixedIsSmall
fixed-lt quantity net span some = least_multiple-lt net quantity some

pub min_multiple-is_least : MinMultipleIsLeast
min_multiple-is_least minimum multiple net span some = is_least multiple (max net minimum) some

pub min_multiple-lt : MinMultipleIsSmall
min_multiple-lt minimum multiple net span some = omega (arith, least_multiple-lt (max net minimum) multiple some)

-- what a lot rule orders, between the net requirement and the greatest one with the rule's quantities
pub lot-ge : (rule : Rule) (net span : ℕ) → IsRule rule → net ≤ span → net ≤ lot_of rule net span
lot-ge LotForLot net span is h = omega arith
lot-ge (Fixed q) net span is h = least_multiple-le net q is.0
lot-ge (Periods k) net span is h = h
lot-ge (MinMultiple m k) net span is h = omega (arith, least_multiple-le (max net m) k is.1.0)

pub lot-le : (rule : Rule) (net span : ℕ) → IsRule rule → net ≤ span → lot_of rule net span ≤ span + rule_quantities rule
lot-le LotForLot net span is h = omega arith
lot-le (Fixed q) net span is h = omega (arith, least_multiple-lt net q is.0)
lot-le (Periods k) net span is h = omega arith
lot-le (MinMultiple m k) net span is h = omega (arith, least_multiple-lt (max net m) k is.1.0)

pub covers_one : (rule : Rule) → IsRule rule → 1 ≤ periods_covered rule
covers_one LotForLot is = omega arith
covers_one (Fixed q) is = omega arith
covers_one (Periods k) is = is.0
covers_one (MinMultiple m k) is = omega arith

pub lot-covers : LotCovers
lot-covers rule net span is h = lot-ge rule net span is h
