-- Delivery schedules: how their figures follow from one another.
use Rattle.std.specs.Prelude.{◌≡◌, ℕ, ◌+◌, ◌≤◌, List, [], ◌∷◌, Contains}
use Rattle.mrp_master_data.specs.declared.numbers.ItemNo.{ItemNo}
use Rattle.mrp_master_data.specs.Rows.{Vendor}
use Rattle.mrp_master_data.specs.Table.{Table, IsTable}
use Rattle.mrp_net.specs.declared.lane.Lane.{Lane}
use Rattle.mrp_net.specs.declared.lane.LaneKind.TheVariants.{Schedule}
use Rattle.mrp_schedules.specs.declared.line.ScheduleLine.{ScheduleLine}
use Rattle.mrp_schedules.specs.declared.line.ScheduleLine.TheVariants.{Opening, Call, Reset}
use Rattle.mrp_schedules.specs.Schedule.{schedule_of}
use Rattle.mrp_schedules.specs.Vendors.{vendor_schedule}

-- Lines from a period and from a figure on: a call adds its pieces to the figure before it, and stands in a later period
-- than the call before it. A reset closes the figure before it, and the figures from its period on begin at 0.
abbrev pub FollowFrom : ℕ → ℕ → List ScheduleLine → Type 0
FollowFrom period figure [] = Unit {0}
FollowFrom period figure (Opening transit begun ∷ lines) = ⊥
FollowFrom period figure (Call called quantity cumulative ∷ lines) =
    (period ≤ called) × (cumulative ≡ figure + quantity) × FollowFrom (called + 1) cumulative lines
FollowFrom period figure (Reset from closed ∷ lines) = (period ≤ from) × (closed ≡ figure) × FollowFrom from 0 lines

-- a schedule begins with its opening, and its lines follow from period 0 and the opening figure on
abbrev pub Follows : List ScheduleLine → Type 0
Follows (Opening transit figure ∷ lines) = FollowFrom 0 figure lines
Follows _ = ⊥

-- so it is with each item of a schedule lane
abbrev pub LaneFiguresFollow : Type 0
LaneFiguresFollow =
    (N : Table) → IsTable N → (lane : Lane) (item : ItemNo) → lane.kind ≡ Schedule → Follows (schedule_of N lane item)

-- and with each vendor
abbrev pub VendorFiguresFollow : Type 0
VendorFiguresFollow =
    (N : Table) → IsTable N → (v : Vendor) → Contains N.vendors v → Follows (vendor_schedule N v)
