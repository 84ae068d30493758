-- Low-level codes, networks without loops, needs, and the bound on a sized network's plans: their laws.
use Rattle.std.specs.Prelude.{◌≡◌, ℕ, ◌<◌, Bool, true, false, List, map, slice_index}
use Rattle.mrp_master_data.specs.Table.{Table, IsTable, IsPair}
use Rattle.mrp_net.specs.PlanLaws.{HasOnePlan}
use Rattle.mrp_loops.specs.Loop.{HasEdge, IsLoopFree}
use Rattle.mrp_loops.specs.Codes.{AreCodes}
use Rattle.mrp_loops.specs.Need.{AreNeeds, AreWithin}
use Rattle.mrp_loops.specs.Order.{code_order}
use Rattle.mrp_loops.specs.Sized.{IsSized}
use Rattle.mrp_loops.specs.Planning.{IsPlanningOrder}
use Rattle.mrp_loops.specs.Upstream.{IsLoopAnswered}

-- codes rise along edges
abbrev pub CodesRise : Type 0
CodesRise =
    (N : Table) (codes : List ℕ) → IsTable N → AreCodes N codes → (y x : ℕ) → HasEdge N y x
    → slice_index codes y < slice_index codes x

-- a network whose pairs have codes has no loop
abbrev pub CodedIsLoopFree : Type 0
CodedIsLoopFree = (N : Table) (codes : List ℕ) → IsTable N → AreCodes N codes → IsLoopFree N

-- a network without loops has codes
abbrev pub CodesExist : Type 0
CodesExist = (N : Table) → IsTable N → IsLoopFree N → (codes : List ℕ) × AreCodes N codes

-- a network has one list of codes
abbrev pub CodesAreOne : Type 0
CodesAreOne = (N : Table) (a b : List ℕ) → AreCodes N a → AreCodes N b → a ≡ b

-- the walk upstream has at most one loop, so which of several is answered is decided
abbrev pub WalkedLoopIsOne : Type 0
WalkedLoopIsOne = (N : Table) (a b : List ℕ) → IsLoopAnswered N a → IsLoopAnswered N b → a ≡ b

-- in a set of pairs of a network without loops that isn't empty there is a pair without a demander in
-- the set
abbrev pub SetsHaveAFirst : Type 0
SetsHaveAFirst =
    (N : Table) → IsTable N → IsLoopFree N → (set : ℕ → Bool) (x : ℕ) → IsPair N x → set x ≡ true
    → (first : ℕ) × IsPair N first × (set first ≡ true) × ((y : ℕ) → HasEdge N y first → set y ≡ false)

-- what holds of a pair wherever it holds of all its demanders holds of each pair of a network without
-- loops
abbrev pub DemandersDecide : Type 0
DemandersDecide =
    (N : Table) → IsTable N → IsLoopFree N → (test : ℕ → Bool)
    → ((x : ℕ) → IsPair N x → ((y : ℕ) → HasEdge N y x → test y ≡ true) → test x ≡ true)
    → (x : ℕ) → IsPair N x → test x ≡ true

-- a network without loops has at most one list of needs
abbrev pub NeedsAreOne : Type 0
NeedsAreOne = (N : Table) → IsTable N → IsLoopFree N → (a b : List ℕ) → AreNeeds N a → AreNeeds N b → a ≡ b

-- a network whose pairs have codes has needs
abbrev pub NeedsExist : Type 0
NeedsExist = (N : Table) (codes : List ℕ) → IsTable N → AreCodes N codes → (needs : List ℕ) × AreNeeds N needs

-- pairs by rising code, and within a code in table order, come after their demanders
abbrev pub CodeOrderPlans : Type 0
CodeOrderPlans = (N : Table) (codes : List ℕ) → IsTable N → AreCodes N codes
    → IsPlanningOrder N (map (λ x. x.0) (code_order codes))

-- a network without loops has an order in which each pair comes after its demanders
abbrev pub PlanningOrdersExist : Type 0
PlanningOrdersExist = (N : Table) → IsTable N → IsLoopFree N → (order : List ℕ) × IsPlanningOrder N order

-- a sized network has codes, and one list of them
abbrev pub SizedHasCodes : Type 0
SizedHasCodes =
    (N : Table) → IsSized N → (codes : List ℕ) × AreCodes N codes
    × ((others : List ℕ) → AreCodes N others → others ≡ codes)

-- and needs, and one list of them: the one that is within the bound
abbrev pub SizedHasNeeds : Type 0
SizedHasNeeds =
    (N : Table) → IsSized N
    → (needs : List ℕ) × AreNeeds N needs × AreWithin N needs × ((others : List ℕ) → AreNeeds N others → others ≡ needs)

-- the plan of a network without loops obeys the rules at every pair, and no other table of plans does
abbrev pub OnePlan : Type 0
OnePlan = (N : Table) → IsTable N → IsLoopFree N → HasOnePlan N
