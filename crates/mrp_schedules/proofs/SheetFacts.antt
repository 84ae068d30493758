-- Delivery schedules: their report is the rows of its sheet.
use Rattle.std.proofs.Common.{◌≡◌, ℕ, List, [], ◌∷◌, ◌++◌, All, arith, refl, sym, ap₂, ◌∙◌}
use Rattle.std.specs.Prelude.{Option, Some, None, codes as text_bytes, filter}
use Rattle.std.specs.List.{flat_map}
use Rattle.std.proofs.lemmas.Grind.{flat_map-append}
use Rattle.std.proofs.lemmas.List.Elements.{All-append, All-filter, All-head, All-nil, All-tail}
use Rattle.csv.specs.Reading.{strip_bom}
use Rattle.mrp_master_data.specs.Rows.{Vendor}
use Rattle.mrp_master_data.specs.Said.{item_name, plant_name}
use Rattle.mrp_master_data.specs.Table.{IsName}
use Rattle.mrp_master_data.specs.declared.numbers.ItemNo.{ItemNo}
use Rattle.mrp_master_data.specs.Table.{IsTable, Table}
use Rattle.mrp_net.specs.declared.lane.Lane.{Lane}
use Rattle.mrp_net.specs.Lanes.{customer_of, lane_items, lanes, supplier_of}
use Rattle.mrp_csv_out.specs.Dates.{dates_of}
use Rattle.mrp_csv_out.specs.DateLists.{date_in}
use Rattle.mrp_csv_out.specs.Rows.{row}
use Rattle.mrp_csv_out.specs.Sheets.{IsPlain}
use Rattle.mrp_csv_out.proofs.FieldFacts.{ArePlain, headed_read, more, none, number}
use Rattle.mrp_csv_out.proofs.PlainFacts.{dates_plain, item_plain, name_plain, plant_plain}
use Rattle.mrp_csv_out.proofs.ReadBack.{IsRow, all_each, all_map, row_each, rows_each}
use Rattle.mrp_schedules.specs.declared.line.ScheduleLine.{ScheduleLine}
use Rattle.mrp_schedules.specs.declared.line.ScheduleLine.TheVariants.{Call, Opening, Reset}
use Rattle.mrp_schedules.specs.ScheduleRows.{is_between, is_vendor_to, item_text, kind_fields, lane_schedule_text, lanes_text, rows_text}
use Rattle.mrp_schedules.specs.ScheduleRows.{schedule_line_fields, schedule_line_row, schedule_names, schedule_text, supplier_name, vendor_text, vendors_text}
use Rattle.mrp_schedules.specs.Schedule.{schedule_of}
use Rattle.mrp_schedules.specs.ScheduleSheets.{SchedulesAreReadBack, item_sheet, lanes_sheet, rows_sheet, vendor_sheet, vendors_sheet}
use Rattle.mrp_schedules.specs.Vendors.{vendor_customer, vendor_item, vendor_schedule}
use Rattle.mrp_csv_out.proofs.EmptyFields.{date_field_plain, number_field_plain}

module _ (supplier customer item : List ℕ) (dates : List (List ℕ)) (s : IsPlain supplier) (c : IsPlain customer) (i : IsPlain item)
    (d : (t : ℕ) → IsPlain (date_in dates t)) where
  kind_is_row : (kind : List ℕ) → IsPlain kind → (period pieces : Option ℕ) (figure : ℕ)
      → IsRow (kind_fields supplier customer item dates kind period pieces figure)
  unfolding row strip_bom
  kind_is_row kind k period pieces figure = record {
    plain =
        let are : ArePlain (kind_fields supplier customer item dates kind period pieces figure) =
        more refl (more k (more s (more c (more i (more (number_field_plain period) (more (date_field_plain dates d period)
        (more (number_field_plain pieces) (number figure none)))))))) in
        are.all;
    many = omega arith;
    front = λ rest. refl;
  }

  line_is_row : (line : ScheduleLine) → IsRow (schedule_line_fields supplier customer item dates line)
  line_is_row (Opening transit figure) = kind_is_row (text_bytes "opening") refl None (Some transit) figure
  line_is_row (Call period quantity cumulative) = kind_is_row (text_bytes "call") refl (Some period) (Some quantity) cumulative
  line_is_row (Reset period closed) = kind_is_row (text_bytes "reset") refl (Some period) None closed

names_are_row : IsRow schedule_names
unfolding row strip_bom
names_are_row = record {
  plain =
      let are : ArePlain schedule_names =
      more refl (more refl (more refl (more refl (more refl (more refl (more refl (more refl (more refl none)))))))) in
      are.all;
  many = omega arith;
  front = λ rest. refl;
}

schedule_is_sheet : (N : Table) (supplier : List ℕ) (customer item : ℕ) (lines : List ScheduleLine)
    → rows_text N supplier customer item lines ≡ flat_map row (rows_sheet N supplier customer item lines)
unfolding schedule_line_row
schedule_is_sheet N supplier customer item lines = row_each (schedule_line_fields supplier (plant_name N customer) (item_name N item) (dates_of N.calendar)) lines

item_is_sheet : (N : Table) (lane : Lane) (item : ItemNo) → item_text N lane item ≡ flat_map row (item_sheet N lane item)
unfolding item_text
item_is_sheet N lane item = schedule_is_sheet N (supplier_name N lane) (customer_of lane) item.0 (schedule_of N lane item)

vendor_is_sheet : (N : Table) (v : Vendor) → vendor_text N v ≡ flat_map row (vendor_sheet N v)
unfolding vendor_text
vendor_is_sheet N v = schedule_is_sheet N v.name (vendor_customer N v) (vendor_item N v) (vendor_schedule N v)

lane_is_sheet : (N : Table) (lane : Lane) → lane_schedule_text N lane ≡ flat_map row (flat_map (item_sheet N lane) (lane_items N lane))
unfolding lane_schedule_text
lane_is_sheet N lane = rows_each (item_text N lane) (item_sheet N lane) (item_is_sheet N lane) (lane_items N lane)

lanes_are_sheet : (from to : Option (List ℕ)) (N : Table) → lanes_text from to N ≡ flat_map row (lanes_sheet from to N)
unfolding lanes_text
lanes_are_sheet from to N =
    rows_each (lane_schedule_text N) (λ lane. flat_map (item_sheet N lane) (lane_items N lane)) (lane_is_sheet N) (filter (is_between from to N) (lanes N))

vendors_are_sheet : (from to : Option (List ℕ)) (N : Table) → vendors_text from to N ≡ flat_map row (vendors_sheet from to N)
unfolding vendors_text
vendors_are_sheet from to N = rows_each (vendor_text N) (vendor_sheet N) (vendor_is_sheet N) (filter (is_vendor_to from to N) N.vendors)

both_are_sheet : (from to : Option (List ℕ)) (N : Table)
    → lanes_text from to N ++ vendors_text from to N ≡ flat_map row (lanes_sheet from to N ++ vendors_sheet from to N)
both_are_sheet from to N =
    ap₂ (λ (a b : List ℕ). a ++ b) (lanes_are_sheet from to N) (vendors_are_sheet from to N)
    ∙ sym (flat_map-append row (lanes_sheet from to N) (vendors_sheet from to N))

schedule_rows_are : (N : Table) → IsTable N → (supplier : List ℕ) → IsPlain supplier → (customer item : ℕ) (lines : List ScheduleLine)
    → All IsRow (rows_sheet N supplier customer item lines)
schedule_rows_are N is supplier plain customer item lines =
    let dates = dates_of N.calendar in
    all_map (schedule_line_fields supplier (plant_name N customer) (item_name N item) dates)
    (line_is_row supplier (plant_name N customer) (item_name N item) dates plain (plant_plain N is customer) (item_plain N is item)
    (dates_plain N.calendar))
    lines

item_rows_are : (N : Table) → IsTable N → (lane : Lane) (item : ItemNo) → All IsRow (item_sheet N lane item)
item_rows_are N is lane item =
    schedule_rows_are N is (supplier_name N lane) (plant_plain N is (supplier_of lane)) (customer_of lane) item.0 (schedule_of N lane item)

lanes_rows_are : (from to : Option (List ℕ)) (N : Table) → IsTable N → All IsRow (lanes_sheet from to N)
lanes_rows_are from to N is =
    all_each (λ lane. flat_map (item_sheet N lane) (lane_items N lane)) (λ lane. all_each (item_sheet N lane) (item_rows_are N is lane) (lane_items N lane))
    (filter (is_between from to N) (lanes N))

-- the names of vendors are names
vendor_rows_are : (N : Table) → IsTable N → (vs : List Vendor) → All (λ v. IsName v.name) vs → All IsRow (flat_map (vendor_sheet N) vs)
vendor_rows_are N is [] named = All-nil IsRow
vendor_rows_are N is (v ∷ vs) named =
    All-append IsRow (vendor_sheet N v) (flat_map (vendor_sheet N) vs)
    (schedule_rows_are N is v.name (name_plain v.name (All-head (λ (w : Vendor). IsName w.name) v vs named)) (vendor_customer N v) (vendor_item N v)
    (vendor_schedule N v))
    (vendor_rows_are N is vs (All-tail (λ (w : Vendor). IsName w.name) v vs named))

vendors_rows_are : (from to : Option (List ℕ)) (N : Table) → IsTable N → All IsRow (vendors_sheet from to N)
vendors_rows_are from to N is =
    vendor_rows_are N is (filter (is_vendor_to from to N) N.vendors)
    (All-filter (is_vendor_to from to N) (λ (v : Vendor). IsName v.name) N.vendors (λ k d h. (is.read.vendors k d h).name))

pub schedules_are_read : SchedulesAreReadBack
unfolding schedule_text
schedules_are_read N is heading from to =
    headed_read heading schedule_names names_are_row (lanes_text from to N ++ vendors_text from to N) (lanes_sheet from to N ++ vendors_sheet from to N)
    (both_are_sheet from to N)
    (All-append IsRow (lanes_sheet from to N) (vendors_sheet from to N) (lanes_rows_are from to N is) (vendors_rows_are from to N is))
