-- Delivery schedules: their report as a sheet, and what a reader of comma-separated values has to find in it.
use Rattle.std.specs.Prelude.{ℕ, List, ◌++◌, map, filter, Option}
use Rattle.std.specs.List.{flat_map}
use Rattle.mrp_master_data.specs.Rows.{Vendor}
use Rattle.mrp_master_data.specs.Said.{item_name, plant_name}
use Rattle.mrp_master_data.specs.declared.numbers.ItemNo.{ItemNo}
use Rattle.mrp_master_data.specs.Table.{IsTable, Table}
use Rattle.mrp_commands.specs.declared.choice.Heading.{Heading}
use Rattle.mrp_net.specs.declared.lane.Lane.{Lane}
use Rattle.mrp_net.specs.Lanes.{customer_of, lane_items, lanes}
use Rattle.mrp_csv_out.specs.Dates.{dates_of}
use Rattle.mrp_csv_out.specs.Sheets.{IsReadAs, Sheet, header_sheet}
use Rattle.mrp_schedules.specs.declared.line.ScheduleLine.{ScheduleLine}
use Rattle.mrp_schedules.specs.ScheduleRows.{is_between, is_vendor_to, schedule_line_fields, schedule_names}
use Rattle.mrp_schedules.specs.ScheduleRows.{schedule_text, supplier_name}
use Rattle.mrp_schedules.specs.Schedule.{schedule_of}
use Rattle.mrp_schedules.specs.Vendors.{vendor_customer, vendor_item, vendor_schedule}

-- the lines of a schedule
abbrev pub rows_sheet : Table → List ℕ → ℕ → ℕ → List ScheduleLine → Sheet
rows_sheet N supplier customer item lines =
    map (schedule_line_fields supplier (plant_name N customer) (item_name N item) (dates_of N.calendar)) lines

-- those of each item
abbrev pub item_sheet : Table → Lane → ItemNo → Sheet
item_sheet N lane item = rows_sheet N (supplier_name N lane) (customer_of lane) item.0 (schedule_of N lane item)

-- of each lane whose schedules are asked for
abbrev pub lanes_sheet : Option (List ℕ) → Option (List ℕ) → Table → Sheet
lanes_sheet from to N = flat_map (λ lane. flat_map (item_sheet N lane) (lane_items N lane))
    (filter (is_between from to N) (lanes N))

-- and of each vendor
abbrev pub vendor_sheet : Table → Vendor → Sheet
vendor_sheet N v = rows_sheet N v.name (vendor_customer N v) (vendor_item N v) (vendor_schedule N v)

abbrev pub vendors_sheet : Option (List ℕ) → Option (List ℕ) → Table → Sheet
vendors_sheet from to N = flat_map (vendor_sheet N) (filter (is_vendor_to from to N) N.vendors)

abbrev pub schedule_sheet : Heading → Option (List ℕ) → Option (List ℕ) → Table → Sheet
schedule_sheet heading from to N =
    header_sheet heading schedule_names ++ (lanes_sheet from to N ++ vendors_sheet from to N)

-- the report of an accepted table is read back: what csv reads of it by its defaults is the fields that its rows are
-- made of
abbrev pub SchedulesAreReadBack : Type 0
SchedulesAreReadBack =
    (N : Table) → IsTable N → (heading : Heading) (from to : Option (List ℕ))
    → IsReadAs (schedule_text heading from to N) (schedule_sheet heading from to N)
