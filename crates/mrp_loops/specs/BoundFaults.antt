-- The bound on a network's quantities: what its refusals say.
use Rattle.std.specs.Prelude.{ℕ, ◌+◌, ◌<◌, ◌≤◌, List, slice_index}
use Rattle.mrp_qty.specs.declared.quantity.TheConstants.{MOST}
use Rattle.mrp_master_data.specs.Table.{Table, IsPair}
use Rattle.mrp_master_data.specs.declared.numbers.PairNo.{PairNo}
use Rattle.mrp_net.specs.Sums.{supply}
use Rattle.mrp_loops.specs.declared.sized.BoundFault.{BoundFault}
use Rattle.mrp_loops.specs.declared.sized.BoundFault.TheVariants.{SupplyTooLarge, NeedTooLarge, Memory}
use Rattle.mrp_loops.specs.Need.{AreNeeds}
use Rattle.mrp_loops.specs.Order.{ComesBefore, IsFirstAbove}

-- the supply of x is above the bound, and that of no pair before it in the table
pub record IsSupplyTooLarge (N : Table) (x : ℕ) : Type 0 where
  pub pair : IsPair N x
  pub above : MOST < supply N x
  pub first : (y : ℕ) → y < x → supply N y ≤ MOST

-- every supply is within the bound
abbrev pub AreSuppliesWithin : Table → Type 0
AreSuppliesWithin N = (y : ℕ) → IsPair N y → supply N y ≤ MOST

-- every supply is within the bound; supply and need of x together are above it, and those of no pair
-- that comes before x by code and then in the table
pub record IsNeedTooLarge (N : Table) (codes : List ℕ) (x : ℕ) : Type 0 where
  pub pair : IsPair N x
  pub supplies : AreSuppliesWithin N
  pub needs : List ℕ
  pub are_needs : AreNeeds N needs
  pub above : MOST < supply N x + slice_index needs x
  pub first : (y : ℕ) → IsPair N y → ComesBefore codes y x → supply N y + slice_index needs y ≤ MOST

-- what a refusal by the bound says; memory is wanted only where no supply is too large
abbrev pub IsBoundFault : Table → List ℕ → BoundFault → Type 0
IsBoundFault N codes (SupplyTooLarge x) = IsSupplyTooLarge N x.0
IsBoundFault N codes (NeedTooLarge x) = IsNeedTooLarge N codes x.0
IsBoundFault N codes Memory = AreSuppliesWithin N

-- a refusal while needs are tested in an order
abbrev pub IsNeedFault : Table → List PairNo → BoundFault → Type 0
IsNeedFault N order (SupplyTooLarge x) = ⊥
IsNeedFault N order (NeedTooLarge x) = IsFirstAbove N order x
IsNeedFault N order Memory = Unit {0}
