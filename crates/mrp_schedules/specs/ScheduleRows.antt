-- Delivery schedules: their report.
use Rattle.std.specs.Prelude.{ℕ, ◌&&◌, Bool, true, List, [], ◌∷◌, ◌++◌, filter, decimal}
use Rattle.std.specs.Prelude.{codes as text_bytes, Option, Some, None}
use Rattle.std.specs.List.{flat_map}
use Rattle.std.specs.Str.{bytes_eq}
use Rattle.mrp_net.specs.LaneLaws.{is_schedule}
use Rattle.mrp_master_data.specs.Said.{item_name, plant_name}
use Rattle.mrp_master_data.specs.declared.numbers.ItemNo.{ItemNo}
use Rattle.mrp_master_data.specs.Rows.{Vendor}
use Rattle.mrp_master_data.specs.Table.{Table}
use Rattle.mrp_commands.specs.declared.choice.Heading.{Heading}
use Rattle.mrp_net.specs.declared.lane.Lane.{Lane}
use Rattle.mrp_net.specs.Lanes.{customer_of, lane_items, lanes, supplier_of}
use Rattle.mrp_csv_out.specs.Dates.{dates_of}
use Rattle.mrp_csv_out.specs.Headings.{header_row}
use Rattle.mrp_csv_out.specs.Rows.{row}
use Rattle.mrp_schedules.specs.declared.line.ScheduleLine.{ScheduleLine}
use Rattle.mrp_schedules.specs.declared.line.ScheduleLine.TheVariants.{Opening, Call, Reset}
use Rattle.mrp_csv_out.specs.Fields.{date_if_any, number_if_any}
use Rattle.mrp_schedules.specs.Schedule.{schedule_of}
use Rattle.mrp_schedules.specs.Vendors.{vendor_customer, vendor_item, vendor_schedule}

-- the names of the columns
abbrev pub schedule_names : List (List ℕ)
schedule_names =
    text_bytes "row" ∷ text_bytes "kind" ∷ text_bytes "supplier" ∷ text_bytes "customer" ∷ text_bytes "item"
    ∷ text_bytes "period"
    ∷ text_bytes "date" ∷ text_bytes "quantity" ∷ text_bytes "cumulative" ∷ []

-- ---- the rows of an item

-- the fields of a row between a supplier and a customer: its kind, the item, the period and its date, the pieces, and the figure
abbrev pub kind_fields : List ℕ → List ℕ → List ℕ → List (List ℕ) → List ℕ → Option ℕ → Option ℕ → ℕ → List (List ℕ)
kind_fields supplier customer item dates kind period pieces figure =
    text_bytes "schedule" ∷ kind ∷ supplier ∷ customer ∷ item ∷ number_if_any period ∷ date_if_any dates period
    ∷ number_if_any pieces ∷ decimal figure ∷ []

-- those of a line: the opening stands in no period, and a reset has no pieces
abbrev pub schedule_line_fields : List ℕ → List ℕ → List ℕ → List (List ℕ) → ScheduleLine → List (List ℕ)
schedule_line_fields supplier customer item dates (Opening transit figure) =
    kind_fields supplier customer item dates (text_bytes "opening") None (Some transit) figure
schedule_line_fields supplier customer item dates (Call period quantity cumulative) =
    kind_fields supplier customer item dates (text_bytes "call") (Some period) (Some quantity) cumulative
schedule_line_fields supplier customer item dates (Reset period closed) =
    kind_fields supplier customer item dates (text_bytes "reset") (Some period) None closed

-- that row
unfoldable pub schedule_line_row : List ℕ → List ℕ → List ℕ → List (List ℕ) → ScheduleLine → List ℕ
schedule_line_row supplier customer item dates line = row (schedule_line_fields supplier customer item dates line)

-- the names of the two plants of a lane
abbrev pub supplier_name : Table → Lane → List ℕ
supplier_name N lane = plant_name N (supplier_of lane)

abbrev pub customer_name : Table → Lane → List ℕ
customer_name N lane = plant_name N (customer_of lane)

-- the rows of a schedule: those of its lines, with the supplier's name, the customer's and the item's
abbrev pub rows_text : Table → List ℕ → ℕ → ℕ → List ScheduleLine → List ℕ
rows_text N supplier customer item lines =
    flat_map (schedule_line_row supplier (plant_name N customer) (item_name N item) (dates_of N.calendar)) lines

-- those of the schedule of an item of a lane
unfoldable pub item_text : Table → Lane → ItemNo → List ℕ
item_text N lane item = rows_text N (supplier_name N lane) (customer_of lane) item.0 (schedule_of N lane item)

-- and those of a vendor's
unfoldable pub vendor_text : Table → Vendor → List ℕ
vendor_text N v = rows_text N v.name (vendor_customer N v) (vendor_item N v) (vendor_schedule N v)

-- ---- the report

-- the items of a lane, in its order
unfoldable pub lane_schedule_text : Table → Lane → List ℕ
lane_schedule_text N lane = flat_map (item_text N lane) (lane_items N lane)

-- it is the name that is asked for; where none is asked for every name is
abbrev pub is_asked_for : Option (List ℕ) → List ℕ → Bool
is_asked_for None name = true
is_asked_for (Some asked) name = bytes_eq asked name

-- the schedules of the lane are asked for: those that go to the one supplier and come from the one customer
abbrev pub is_between : Option (List ℕ) → Option (List ℕ) → Table → Lane → Bool
is_between from to N lane = is_schedule lane.kind && is_asked_for from (supplier_name N lane)
    && is_asked_for to (customer_name N lane)

-- and so is that of the vendor
abbrev pub is_vendor_to : Option (List ℕ) → Option (List ℕ) → Table → Vendor → Bool
is_vendor_to from to N v = is_asked_for from v.name && is_asked_for to (plant_name N (vendor_customer N v))

-- the lanes whose schedules are asked for, in lane order
unfoldable pub lanes_text : Option (List ℕ) → Option (List ℕ) → Table → List ℕ
lanes_text from to N = flat_map (lane_schedule_text N) (filter (is_between from to N) (lanes N))

-- the vendors whose schedules are asked for, in table order
unfoldable pub vendors_text : Option (List ℕ) → Option (List ℕ) → Table → List ℕ
vendors_text from to N = flat_map (vendor_text N) (filter (is_vendor_to from to N) N.vendors)

-- the report: the names of its columns, where they are asked for, the schedules of lanes, and behind them those of
-- vendors
unfoldable pub schedule_text : Heading → Option (List ℕ) → Option (List ℕ) → Table → List ℕ
schedule_text heading from to N = header_row heading schedule_names ++ (lanes_text from to N ++ vendors_text from to N)
