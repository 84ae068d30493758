-- Delivery schedules: their laws.
use Rattle.std.specs.Prelude.{◌≡◌, ℕ, ◌+◌, ◌==◌, if◌then◌else◌, List, ◌∷◌, sum_by, filter_map, Contains}
use Rattle.mrp_master_data.specs.declared.numbers.ItemNo.{ItemNo}
use Rattle.mrp_master_data.specs.declared.rows.SourceRow.{SourceRow}
use Rattle.mrp_master_data.specs.declared.rows.Supply.TheVariants.{From}
use Rattle.mrp_master_data.specs.Rows.{Vendor}
use Rattle.mrp_master_data.specs.Table.{Table, IsTable, IsPair, sources_of_pair}
use Rattle.mrp_net.specs.declared.lane.Lane.{Lane}
use Rattle.mrp_net.specs.LaneLaws.{schedule_lane}
use Rattle.mrp_net.specs.Lanes.{lane_at, lane_items, item_of_source, opening, reset}
use Rattle.mrp_net.specs.Plan.{plan_of}
use Rattle.mrp_net.specs.Plan.{release_at}
use Rattle.mrp_net.specs.Sums.{pair_at}
use Rattle.mrp_record.specs.declared.record.Record.{Record}
use Rattle.mrp_record.specs.Entries.{contents, entries_of}
use Rattle.mrp_record.specs.Text.{IsWhole}
use Rattle.mrp_protocol.specs.LaneOrder.{cum_on}
use Rattle.mrp_protocol.specs.Loads.{loads}
use Rattle.mrp_schedules.specs.declared.line.ScheduleLine.{ScheduleLine}
use Rattle.mrp_schedules.specs.declared.line.ScheduleLine.TheVariants.{Opening, Call, Reset}
use Rattle.mrp_schedules.specs.Schedule.{in_transit, line_of, schedule_of}
use Rattle.mrp_schedules.specs.Vendors.{vendor_schedule}

-- behind the opening stands what any whole text of the lane says of the item
abbrev pub TextsCarrySchedules : Type 0
TextsCarrySchedules =
    (N : Table) → IsTable N → (lane : Lane) (records : List Record) → IsWhole (loads N lane) records
    → (item : ItemNo) → Contains (lane_items N lane) item
    → schedule_of N lane item
    ≡ Opening (in_transit N lane item) (opening N lane item)
    ∷ filter_map (line_of (reset N lane item)) (entries_of item.0 (contents records))

-- the pieces that are called for
abbrev pub pieces_of : ScheduleLine → ℕ
pieces_of (Opening transit figure) = 0
pieces_of (Call period quantity cumulative) = quantity
pieces_of (Reset period closed) = 0

abbrev pub called_pieces : List ScheduleLine → ℕ
called_pieces lines = sum_by pieces_of lines

-- with a whole text the cumulative figure, closed years added, is the opening figure and all calls
abbrev pub FiguresAddUp : Type 0
FiguresAddUp =
    (N : Table) → IsTable N → (l : ℕ) (records : List Record) → IsWhole (loads N (lane_at N l)) records
    → (item : ItemNo) → Contains (lane_items N (lane_at N l)) item
    → cum_on N l item records ≡ opening N (lane_at N l) item + called_pieces (schedule_of N (lane_at N l) item)

-- the pieces that are called for in a period
abbrev pub line_pieces_in : ℕ → ScheduleLine → ℕ
line_pieces_in t (Opening transit figure) = 0
line_pieces_in t (Call period quantity cumulative) = if period == t then quantity else 0
line_pieces_in t (Reset period closed) = 0

abbrev pub called_for_in : ℕ → List ScheduleLine → ℕ
called_for_in t lines = sum_by (line_pieces_in t) lines

-- the schedule of a source: that of its item on the schedule lane from the plant of its pair to the source's plant
abbrev pub schedule_by : Table → SourceRow → List ScheduleLine
schedule_by N s = schedule_of N (schedule_lane N s) (item_of_source N s)

-- what is called for in a period over all sources of a pair is the planned order release of the pair
abbrev pub CallsAreReleased : Type 0
CallsAreReleased =
    (N : Table) → IsTable N → (x : ℕ) → IsPair N x → (pair_at N x).supply ≡ From → (t : ℕ)
    → sum_by (λ s. called_for_in t (schedule_by N s)) (sources_of_pair N x) ≡ release_at (plan_of N) x t

-- what a vendor is called for in a period is the planned order release of its pair
abbrev pub VendorCallsAreReleased : Type 0
VendorCallsAreReleased =
    (N : Table) → IsTable N → (v : Vendor) → Contains N.vendors v → (t : ℕ)
    → called_for_in t (vendor_schedule N v) ≡ release_at (plan_of N) v.pair.0 t

-- behind what was received from the vendor stands what is in transit
abbrev pub VendorSchedulesOpen : Type 0
VendorSchedulesOpen =
    (N : Table) (v : Vendor)
    → (lines : List ScheduleLine) × (vendor_schedule N v ≡ Opening v.transit (v.figure + v.transit) ∷ lines)
