-- Quantities: what a row of them is, one for each period of a horizon. Every list that a `Row` shows is one.
use Rattle.std.specs.Prelude.{ℕ, ◌≤◌, List, length, All}
use Rattle.mrp_qty.specs.declared.quantity.TheConstants.{MOST}
use Rattle.mrp_qty.specs.declared.horizon.TheConstants.{LONGEST}

-- 1 to 520 quantities, each at most 10^15
pub record IsRow (row : List ℕ) : Type 0 where
  pub some : 1 ≤ length row
  pub short : length row ≤ LONGEST
  pub within : All (λ quantity. quantity ≤ MOST) row
