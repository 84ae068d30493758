-- Delivery schedules: their rows, of one lane, of one vendor and of one item, line by line.
use Rattle.std.specs.Prelude.{◌≡◌, ℕ, ◌<◌, if◌then◌else◌, List, [], Option}
use Rattle.mrp_master_data.specs.Rows.{Vendor}
use Rattle.mrp_master_data.specs.Said.{item_name, plant_name}
use Rattle.mrp_master_data.specs.Table.{Table}
use Rattle.mrp_net.specs.declared.lane.Lane.{Lane}
use Rattle.mrp_csv_out.specs.Dates.{dates_of}
use Rattle.mrp_csv_out.specs.Rows.{row}
use Rattle.mrp_schedules.specs.declared.line.ScheduleLine.{ScheduleLine}
use Rattle.mrp_schedules.specs.declared.line.ScheduleLine.TheVariants.{Opening, Call, Reset}
use Rattle.mrp_schedules.specs.declared.report.ItemRows.{ItemRows}
use Rattle.mrp_schedules.specs.ScheduleRows.{is_between, is_vendor_to, kind_fields, lane_schedule_text}
use Rattle.mrp_schedules.specs.ScheduleRows.{schedule_line_row, vendor_text}

-- what the rows of a schedule have in common: the supplier's name, and those of the customer and the item
pub record AreRowsOf (N : Table) (supplier : List ℕ) (customer item : ℕ) (rows : ItemRows) : Type 0 where
  pub supplied_by : rows.supplier.now ≡ supplier
  pub taken_by : rows.customer.now ≡ plant_name N customer
  pub of_item : rows.item.now ≡ item_name N item
  pub dates : rows.dates.now ≡ dates_of N.calendar

-- the row of a line of the schedule
abbrev pub item_row : ItemRows → ScheduleLine → List ℕ
item_row rows line = schedule_line_row rows.supplier.now rows.customer.now rows.item.now rows.dates.now line

-- a row of that kind, in a period or in none, with pieces or without
abbrev pub kind_row : ItemRows → List ℕ → Option ℕ → Option ℕ → ℕ → List ℕ
kind_row rows kind period pieces figure =
    row (kind_fields rows.supplier.now rows.customer.now rows.item.now rows.dates.now kind period pieces figure)

-- a line stands in one of the first so many periods, or in none
abbrev pub IsLineWithin : ℕ → ScheduleLine → Type 0
IsLineWithin periods (Opening transit figure) = Unit {0}
IsLineWithin periods (Call period quantity cumulative) = period < periods
IsLineWithin periods (Reset period closed) = period < periods

-- the rows of a lane, if its schedules are asked for
abbrev pub asked_text : Option (List ℕ) → Option (List ℕ) → Table → Lane → List ℕ
asked_text from to N lane = if is_between from to N lane then lane_schedule_text N lane else []

-- and those of a vendor
abbrev pub asked_vendor_text : Option (List ℕ) → Option (List ℕ) → Table → Vendor → List ℕ
asked_vendor_text from to N v = if is_vendor_to from to N v then vendor_text N v else []
