-- Loops and the bound: a sized network has no loop, and every figure of its plan is within the bound.
use Rattle.std.specs.Prelude.{ℕ, List}
use Rattle.mrp_master_data.specs.Table.{Table, IsTable}
use Rattle.mrp_loops.specs.Loop.{IsLoopFree}
use Rattle.mrp_loops.specs.Need.{AreNeeds, AreWithin}

-- a table is sized: it has no loop, and supply and need of each pair are together within 10^15
pub record IsSized (N : Table) : Type 0 where
  pub table : IsTable N
  pub loop_free : IsLoopFree N
  pub needs : List ℕ
  pub are_needs : AreNeeds N needs
  pub within : AreWithin N needs
