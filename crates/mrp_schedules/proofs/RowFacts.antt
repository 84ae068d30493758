-- Delivery schedules: their lines stand within the horizon; the rows of an item are those of its lines, and those of
-- the report are those of the lanes that are asked for.
use Rattle.std.proofs.Common.{◌≡◌, ℕ, ◌<◌, Bool, true, false, cond, List, [], ◌∷◌, ◌++◌, length, map, refl, sym, ap, subst, ◌∙◌}
use Rattle.std.specs.Prelude.{Option, Some, None, All, Contains, IfSome, filter, filter_map}
use Rattle.std.specs.List.{flat_map}
use Rattle.std.proofs.lemmas.List.Elements.{All-cons, All-head, All-nil, All-tail}
use Rattle.std.proofs.lemmas.List.Folds.{flat_map-map}
use Rattle.std.proofs.lemmas.List.FromFn.{length-map-range_with_len}
use Rattle.mrp_master_data.specs.Rows.{Vendor, vendor_of}
use Rattle.mrp_master_data.specs.declared.rows.VendorRow.{VendorRow}
use Rattle.mrp_master_data.specs.Said.{item_name, plant_name}
use Rattle.mrp_master_data.specs.declared.numbers.ItemNo.{ItemNo}
use Rattle.mrp_master_data.specs.Table.{IsTable, Table, horizon}
use Rattle.mrp_net.specs.declared.lane.Lane.{Lane}
use Rattle.mrp_net.specs.declared.lane.LaneKind.{LaneKind}
use Rattle.mrp_net.specs.declared.lane.LaneKind.TheVariants.{Schedule}
use Rattle.mrp_net.specs.Lanes.{lane_items, pair_on}
use Rattle.mrp_net.specs.Plan.{plan_of, release_at}
use Rattle.mrp_net.specs.Sources.{source_on}
use Rattle.mrp_net.specs.Sums.{no_pair}
use Rattle.mrp_net.proofs.Behind.{items_have_sources}
use Rattle.mrp_record.specs.Entries.{Closing, Delivery, EndOf, Entry, LineOf, ResetOf}
use Rattle.mrp_record.specs.Blocks.{entry_delivery}
use Rattle.mrp_record.specs.Text.{Load, block}
use Rattle.mrp_record.proofs.Running.{block_delivers}
use Rattle.mrp_protocol.specs.Loads.{called, called_in, lines_by, load_of}
use Rattle.mrp_protocol.proofs.Delivered.{by_period_inside}
use Rattle.mrp_csv_out.specs.Dates.{dates_of, period_date}
use Rattle.mrp_schedules.specs.declared.line.ScheduleLine.{ScheduleLine}
use Rattle.mrp_schedules.specs.declared.line.ScheduleLine.TheVariants.{Call, Opening, Reset}
use Rattle.mrp_schedules.specs.declared.report.ItemRows.{ItemRows}
use Rattle.mrp_schedules.specs.ItemRows.{AreRowsOf, IsLineWithin, asked_text, asked_vendor_text, item_row}
use Rattle.mrp_schedules.specs.ScheduleRows.{is_between, is_vendor_to, lane_schedule_text, rows_text, schedule_line_row, vendor_text, vendors_text}
use Rattle.mrp_schedules.specs.Schedule.{in_transit, line_of, load_schedule, schedule_of}
use Rattle.mrp_schedules.specs.Vendors.{vendor_load, vendor_schedule}
use Rattle.mrp_schedules.proofs.Planned.{reset_before}
use Rattle.mrp_schedules.proofs.Delivering.{vendor_row}

-- ---- periods

-- where the deliveries of records stand, and the reset, there stand their lines
lines_within : (n : ℕ) (from : Option ℕ) → IfSome from (λ t. t < n) → (es : List Entry) → All (λ d. d.period < n) (filter_map entry_delivery es)
    → All (IsLineWithin n) (filter_map (line_of from) es)
lines_within n from before [] inside = All-nil (IsLineWithin n)
lines_within n from before (LineOf i p q c ∷ es) inside =
    let line : Delivery = record { period = p; quantity = q } in
    let rest = filter_map entry_delivery es in
    All-cons (IsLineWithin n) (Call p q c) (filter_map (line_of from) es) (All-head (λ (d : Delivery). d.period < n) line rest inside)
    (lines_within n from before es (All-tail (λ (d : Delivery). d.period < n) line rest inside))
lines_within n from before (EndOf i k c ∷ es) inside = lines_within n from before es inside
lines_within n None before (ResetOf i c ∷ es) inside = lines_within n None before es inside
lines_within n (Some from) before (ResetOf i c ∷ es) inside =
    All-cons (IsLineWithin n) (Reset from c) (filter_map (line_of (Some from)) es) before (lines_within n (Some from) before es inside)
lines_within n from before (Closing ∷ es) inside = lines_within n from before es inside

-- where the deliveries of a load and its reset stand, there stand the lines of its schedule
pub load_within : (n transit : ℕ) (load : Load) → IfSome load.reset (λ t. t < n) → All (λ d. d.period < n) load.lines
    → All (IsLineWithin n) (load_schedule transit load)
load_within n transit load before inside =
    All-cons (IsLineWithin n) (Opening transit load.opening) (filter_map (line_of load.reset) (block load)) tt
    (lines_within n load.reset before (block load) (subst (λ (ds : List Delivery). All (λ d. d.period < n) ds) (sym (block_delivers load)) inside))

-- those of a lane's item stand within the horizon
pub schedule_within : (N : Table) → IsTable N → (lane : Lane) (item : ItemNo) → lane.kind ≡ Schedule → All (IsLineWithin (horizon N)) (schedule_of N lane item)
schedule_within N table lane item schedule =
    let n = horizon N in
    let calls : lines_by N lane.kind lane item ≡ called N lane item = ap (λ (k : LaneKind). lines_by N k lane item) schedule in
    load_within n (in_transit N lane item) (load_of N lane item) (reset_before N table lane item)
    (subst (λ (ds : List Delivery). All (λ d. d.period < n) ds) (sym calls) (by_period_inside (called_in N (source_on N lane item)) n))

-- and so do those of a vendor
pub vendor_within : (N : Table) → IsTable N → (v : Vendor) → Contains N.vendors v → All (IsLineWithin (horizon N)) (vendor_schedule N v)
vendor_within N table v there =
    load_within (horizon N) v.transit (vendor_load N v) (vendor_row N table v there).reset
    (by_period_inside (λ t. release_at (plan_of N) v.pair.0 t) (horizon N))

-- so there is a date for each of them
pub lines_dated : (N : Table) (schedule lines : List ScheduleLine) (dates : List (List ℕ)) → All (IsLineWithin (horizon N)) schedule
    → lines ≡ schedule → dates ≡ dates_of N.calendar → All (IsLineWithin (length dates)) lines
lines_dated N schedule lines dates inside same are =
    let size : length dates ≡ horizon N = ap (λ (l : List (List ℕ)). length l) are ∙ length-map-range_with_len (period_date N.calendar) 0 (horizon N) in
    subst (λ (n : ℕ). All (IsLineWithin n) lines) (sym size)
    (subst (λ (ls : List ScheduleLine). All (IsLineWithin (horizon N)) ls) (sym same) inside)

-- ---- rows

-- an item of a lane is one of the table
pub item_is_there : (N : Table) → IsTable N → (lane : Lane) (item : ItemNo) → Contains (lane_items N lane) item → item.0 < length N.items
item_is_there N table lane item there =
    let taker = (items_have_sources N table lane item there).customer in
    subst (λ (i : ItemNo). i.0 < length N.items) taker.of_item (table.read.pairs (pair_on N lane item) no_pair taker.pair).item

-- the rows of the lines are those of the schedule
pub rows_are_of : (N : Table) (supplier : List ℕ) (customer item : ℕ) (schedule lines : List ScheduleLine) (rows : ItemRows)
    → lines ≡ schedule → AreRowsOf N supplier customer item rows → flat_map (item_row rows) lines ≡ rows_text N supplier customer item schedule
rows_are_of N supplier customer item schedule lines rows same are =
    ap (flat_map (item_row rows)) same
    ∙ ap (λ (s : List ℕ). flat_map (schedule_line_row s rows.customer.now rows.item.now rows.dates.now) schedule) are.supplied_by
    ∙ ap (λ (c : List ℕ). flat_map (schedule_line_row supplier c rows.item.now rows.dates.now) schedule) are.taken_by
    ∙ ap (λ (i : List ℕ). flat_map (schedule_line_row supplier (plant_name N customer) i rows.dates.now) schedule) are.of_item
    ∙ ap (λ (d : List (List ℕ)). flat_map (schedule_line_row supplier (plant_name N customer) (item_name N item) d) schedule) are.dates

kept : {X : Type 0} (text : X → List ℕ) (test : X → Bool) (xs : List X) → flat_map (λ x. cond (test x) (text x) []) xs ≡ flat_map text (filter test xs)
kept text test [] = refl
kept text test (x ∷ xs) =
    let rest = flat_map (λ y. cond (test y) (text y) []) xs in
    elim (test x) as (λ b. cond b (text x) [] ++ rest ≡ flat_map text (cond b (x ∷ filter test xs) (filter test xs))) [
      | true ↦ ap (λ t. text x ++ t) (kept text test xs)
      | false ↦ kept text test xs
    ]

-- the rows of the lanes that are asked for are those of the lanes that pass the test
pub asked_are_kept : (from to : Option (List ℕ)) (N : Table) (ls : List Lane)
    → flat_map (asked_text from to N) ls ≡ flat_map (lane_schedule_text N) (filter (is_between from to N) ls)
asked_are_kept from to N ls = kept (lane_schedule_text N) (is_between from to N) ls

-- and so it is with vendors
pub asked_vendors_are_kept : (from to : Option (List ℕ)) (N : Table) (vs : List Vendor)
    → flat_map (asked_vendor_text from to N) vs ≡ flat_map (vendor_text N) (filter (is_vendor_to from to N) vs)
asked_vendors_are_kept from to N vs = kept (vendor_text N) (is_vendor_to from to N) vs

-- those of a vendor's row
abbrev pub row_text : Option (List ℕ) → Option (List ℕ) → Table → VendorRow → List ℕ
row_text from to N v = asked_vendor_text from to N (vendor_of v)

pub rows_are_kept : (from to : Option (List ℕ)) (N : Table) (vs : List VendorRow) → map vendor_of vs ≡ N.vendors
    → flat_map (row_text from to N) vs ≡ vendors_text from to N
unfolding vendors_text
rows_are_kept from to N vs are =
    sym (flat_map-map (asked_vendor_text from to N) vendor_of vs)
    ∙ ap (flat_map (asked_vendor_text from to N)) are
    ∙ asked_vendors_are_kept from to N N.vendors
