-- Reach: laws of how far a plan is whole.
use Rattle.std.specs.Prelude.{◌≡◌, ℕ, ◌≤◌, ◌<◌, List, slice_index}
use Rattle.mrp_cal.specs.Calendar.{first_day}
use Rattle.mrp_netting.specs.PlanRows.{PlanRows}
use Rattle.mrp_master_data.specs.Table.{Table, IsTable, IsPair, horizon}
use Rattle.mrp_net.specs.Plan.{rows_at}
use Rattle.mrp_net.specs.PlanLaws.{Fits}
use Rattle.mrp_net.specs.Policies.{policy_of}
use Rattle.mrp_loops.specs.Loop.{IsLoopFree}
use Rattle.mrp_reach.specs.Lengthening.{Lengthens}
use Rattle.mrp_reach.specs.Reach.{AreWhole, orders_whole, receipts_whole, releases_whole}

-- two rows have the same pieces in so many periods
abbrev pub AgreeBelow : ℕ → List ℕ → List ℕ → Type 0
AgreeBelow n a b = (t : ℕ) → t < n → slice_index a t ≡ slice_index b t

-- of a pair whose requirements are whole in so many periods two plans say the same as far as they are whole
pub record AgreeWhere (N : Table) (x whole : ℕ) (a b : PlanRows) : Type 0 where
  pub gross : AgreeBelow whole a.gross b.gross
  pub incoming : AgreeBelow (receipts_whole N x whole) a.incoming b.incoming
  pub incoming_when_due : (policy_of N x).sooner ≡ 0 → AgreeBelow (horizon N) a.incoming b.incoming
  pub order : AgreeBelow (orders_whole N x whole) a.order b.order
  pub available : AgreeBelow (orders_whole N x whole) a.available b.available
  pub release : AgreeBelow (releases_whole N x whole) a.release b.release

-- what is whole stays so in the plan of each table that goes on where this one ends, whatever it wants there
abbrev pub WholeStays : Type 0
WholeStays =
    (N M : Table) → IsTable N → IsTable M → IsLoopFree N → Lengthens N M
    → (wholes : List ℕ) → AreWhole N wholes → (plans later : List PlanRows) → Fits N plans → Fits M later
    → (x : ℕ) → IsPair N x → AgreeWhere N x (slice_index wholes x) (rows_at plans x) (rows_at later x)

-- and each of its periods begins on the same day there
abbrev pub DatesStay : Type 0
DatesStay =
    (N M : Table) → IsTable M → Lengthens N M → (t : ℕ) → t < horizon N
    → first_day M.calendar t ≡ first_day N.calendar t

-- a network without loops has one list of whole periods
abbrev pub WholesExist : Type 0
WholesExist = (N : Table) → IsTable N → IsLoopFree N → (wholes : List ℕ) × AreWhole N wholes

abbrev pub WholesAreOne : Type 0
WholesAreOne = (N : Table) → IsTable N → IsLoopFree N → (a b : List ℕ) → AreWhole N a → AreWhole N b → a ≡ b

-- no more periods are whole than the horizon has, of requirements and of releases
abbrev pub WholesAreWithin : Type 0
WholesAreWithin =
    (N : Table) (wholes : List ℕ) → IsTable N → AreWhole N wholes → (x : ℕ) → IsPair N x
    → (slice_index wholes x ≤ horizon N) × (releases_whole N x (slice_index wholes x) ≤ horizon N)

-- and of a table that goes on as many are whole, or more
abbrev pub WholesGrow : Type 0
WholesGrow =
    (N M : Table) → IsTable N → IsTable M → IsLoopFree N → Lengthens N M
    → (wholes longer : List ℕ) → AreWhole N wholes → AreWhole M longer
    → (x : ℕ) → IsPair N x → slice_index wholes x ≤ slice_index longer x
