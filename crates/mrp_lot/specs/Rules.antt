-- Lot rules: their laws, whatever they are asked for.
use Rattle.std.specs.Prelude.{◌≡◌, ℕ, ◌+◌, ◌*◌, ◌≤◌, ◌<◌, max}
use Rattle.mrp_lot.specs.declared.rule.Rule.{Rule}
use Rattle.mrp_lot.specs.declared.rule.Rule.TheVariants.{LotForLot, Fixed, MinMultiple}
use Rattle.mrp_lot.specs.Lot.{IsRule, rule_quantities, lot_of}

-- an order that is a multiple of q and not below n, where no smaller multiple is
pub record IsLeastMultiple (q n ordered : ℕ) : Type 0 where
  pub multiple : (lots : ℕ) × (ordered ≡ q * lots)
  pub covers : n ≤ ordered
  pub least : (lots : ℕ) → n ≤ q * lots → ordered ≤ q * lots

-- lot for lot orders exactly the net requirement
abbrev pub LotForLotIsExact : Type 0
LotForLotIsExact = (net span : ℕ) → lot_of LotForLot net span ≡ net

-- a fixed quantity orders as few lots as cover the net requirement
abbrev pub FixedIsLeast : Type 0
FixedIsLeast = (quantity net span : ℕ) → 1 ≤ quantity → IsLeastMultiple quantity net (lot_of (Fixed quantity) net span)

-- a minimum and a multiple order the least multiple below neither
abbrev pub MinMultipleIsLeast : Type 0
MinMultipleIsLeast = (minimum multiple net span : ℕ) → 1 ≤ multiple
    → IsLeastMultiple multiple (max net minimum) (lot_of (MinMultiple minimum multiple) net span)

-- either is below the net requirement and the rule's quantities together
abbrev pub FixedIsSmall : Type 0
FixedIsSmall = (quantity net span : ℕ) → 1 ≤ quantity
    → lot_of (Fixed quantity) net span < net + rule_quantities (Fixed quantity)

abbrev pub MinMultipleIsSmall : Type 0
MinMultipleIsSmall = (minimum multiple net span : ℕ) → 1 ≤ multiple
    → lot_of (MinMultiple minimum multiple) net span < net + rule_quantities (MinMultiple minimum multiple)

-- any order covers the net requirement, where the span does
abbrev pub LotCovers : Type 0
LotCovers = (rule : Rule) (net span : ℕ) → IsRule rule → net ≤ span → net ≤ lot_of rule net span
