-- The grammar that validates a table, row by row. Each row is tested against the table of the rows before it, in the
-- order of the faults, and then adds to it.
use Rattle.std.specs.Prelude.{◌≡◌, ℕ, ◌+◌, ◌-◌, ◌==◌, ◌&&◌, ◌||◌, not, nat_lt, nat_le, Bool, true}
use Rattle.std.specs.Prelude.{false, if◌then◌else◌, List, [], ◌∷◌, ◌++◌, length, map, codes, Option, Some}
use Rattle.std.specs.Prelude.{None, is_some, option_map, position, slice_get, unwrap_or, Result, Ok, Err, ok_or}
use Rattle.std.specs.List.{list_all, list_any}
use Rattle.std.specs.Str.{bytes_eq}
use Rattle.csv.specs.Records.{field_at}
use Rattle.mrp_qty.specs.declared.quantity.TheConstants.{MOST}
use Rattle.mrp_qty.specs.Limits.{limits_of}
use Rattle.mrp_qty.specs.declared.limits.LimitSet.{LimitSet}
use Rattle.mrp_cal.specs.Begins.{begins, latest_begun}
use Rattle.mrp_cal.specs.Calendar.{CalendarTerms}
use Rattle.mrp_cal.specs.declared.fault.CalFault.{CalFault}
use Rattle.mrp_lot.specs.declared.rule.Rule.{Rule}
use Rattle.mrp_master_data.specs.declared.spelled_supplies.SupplyFault.{SupplyFault}
use Rattle.mrp_master_data.specs.declared.spelled_supplies.SupplyFault.TheVariants as refused
use Rattle.mrp_master_data.specs.Supplies.{SourceTerms, SupplyTerms, MakeTerms, BuyTerms, FromTerms}
use Rattle.mrp_master_data.specs.SupplyParsing.{named_sources, names_plant, supply_of}
use Rattle.mrp_master_data.specs.Names.{has_plant, pair_named, plant_no}
use Rattle.mrp_validation.specs.declared.fault.TableFaultKind.{TableFaultKind}
use Rattle.mrp_validation.specs.declared.fault.TableFaultKind.TheVariants as fault
use Rattle.mrp_validation.specs.declared.kind.Kind.{Kind}
use Rattle.mrp_validation.specs.declared.kind.Kind.TheVariants as kind
use Rattle.mrp_qty.specs.declared.limits.TheConstants.{MOST_IN_ROW, MOST_PER}
use Rattle.mrp_master_data.specs.declared.rows.Supply.{Supply}
use Rattle.mrp_master_data.specs.declared.rows.Supply.TheVariants as supply
use Rattle.mrp_master_data.specs.declared.rows.BillRow.{BillRow}
use Rattle.mrp_master_data.specs.declared.rows.FirmRow.{FirmRow}
use Rattle.mrp_master_data.specs.declared.rows.PolicyRow.{PolicyRow}
use Rattle.mrp_master_data.specs.declared.rows.ResetRow.{ResetRow}
use Rattle.mrp_master_data.specs.declared.rows.CumRow.{CumRow}
use Rattle.mrp_master_data.specs.declared.rows.ShipRow.{ShipRow}
use Rattle.mrp_master_data.specs.declared.rows.ReceiptRow.{ReceiptRow}
use Rattle.mrp_master_data.specs.declared.rows.DemandRow.{DemandRow}
use Rattle.mrp_master_data.specs.declared.rows.UsageRow.{UsageRow}
use Rattle.mrp_master_data.specs.declared.numbers.PlantNo.{PlantNo}
use Rattle.mrp_master_data.specs.declared.numbers.PairNo.{PairNo}
use Rattle.mrp_master_data.specs.Rows.{Vendor}
use Rattle.mrp_master_data.specs.Table.{Table, horizon, most}
use Rattle.mrp_master_data.specs.declared.rows.PairRow.{PairRow}
use Rattle.mrp_master_data.specs.declared.rows.SourceRow.{SourceRow}
use Rattle.mrp_master_data.specs.Table.{arrivals, is_joined, is_taken_from, rises_from}
use Rattle.mrp_master_data.specs.Growing.{add_item, with_plant, with_bill, with_demand}
use Rattle.mrp_master_data.specs.Growing.{with_receipt, with_ship, with_cum}
use Rattle.mrp_master_data.specs.Growing.{with_calendar, with_end, with_firm, with_policy, with_reset, with_usage, with_vendor}
use Rattle.mrp_master_data.specs.Spelling.{is_name}
use Rattle.mrp_master_data.specs.Turns.{row_count}
use Rattle.mrp_master_data.specs.Parsing.{spelled_number, number_within, rule_of}

-- the answer of a test, or the first fault, whatever the faults are
infixl 10 ◌>>=◌
abbrev pub ◌>>=◌ : {A B E : Type 0} → Result A E → (A → Result B E) → Result B E
Ok x >>= f = f x
Err e >>= f = Err e

abbrev pub check : {E : Type 0} → Bool → E → Result (Unit {0}) E
check true e = Ok tt
check false e = Err e

-- a good answer as the definitions see it
abbrev pub seen : {A B : Type 0} → (A → B) → Result A TableFaultKind → Result B TableFaultKind
seen view (Ok x) = Ok (view x)
seen view (Err e) = Err e

-- a fault that a step answers; it may also answer that there is no memory
abbrev pub TellsFault : {B : Type 0} → Result B TableFaultKind → TableFaultKind → Type 0
TellsFault read fault.Memory = Unit {0}
TellsFault read e = read ≡ Err e

-- the fault of a supply that is refused
abbrev pub fault_of_supply : SupplyFault → TableFaultKind
fault_of_supply refused.NotASupply = fault.BadSupply
fault_of_supply refused.Memory = fault.Memory

-- what a step answers, as the definitions see it
abbrev pub TellsSeen : {A B : Type 0} → (A → B) → Result A TableFaultKind → Result B TableFaultKind → Type 0
TellsSeen view (Ok x) read = read ≡ Ok (view x)
TellsSeen view (Err e) read = TellsFault read e

-- a step makes that value, or answers the fault
abbrev pub TellsMade : {T B : Type 0} → Result T TableFaultKind → Result B TableFaultKind → B → Type 0
TellsMade (Ok t) read made = read ≡ Ok made
TellsMade (Err e) read made = TellsFault read e

-- a field of a row, counted from 0
abbrev pub field : List (List ℕ) → ℕ → List ℕ
field row i = unwrap_or (field_at row i) []

abbrev pub is_empty : List ℕ → Bool
is_empty text = length text == 0

abbrev pub kind_of : List ℕ → Option Kind
kind_of word =
    if bytes_eq word (codes "demand") then Some kind.Demand
    else if bytes_eq word (codes "receipt") then Some kind.Receipt
    else if bytes_eq word (codes "ship") then Some kind.Ship
    else if bytes_eq word (codes "bill") then Some kind.Bill
    else if bytes_eq word (codes "pair") then Some kind.Pair
    else if bytes_eq word (codes "firm") then Some kind.Firm
    else if bytes_eq word (codes "policy") then Some kind.Policy
    else if bytes_eq word (codes "usage") then Some kind.Usage
    else if bytes_eq word (codes "cum") then Some kind.Cum
    else if bytes_eq word (codes "reset") then Some kind.Reset
    else if bytes_eq word (codes "vendor") then Some kind.Vendor
    else if bytes_eq word (codes "day") then Some kind.Day
    else if bytes_eq word (codes "plant") then Some kind.Plant
    else if bytes_eq word (codes "run") then Some kind.Run
    else if bytes_eq word (codes "end") then Some kind.End
    else None

-- how many of the eight fields a kind uses
abbrev pub used : Kind → ℕ
used kind.Run = 4
used kind.Plant = 2
used kind.Pair = 8
used kind.Bill = 5
used kind.Demand = 5
used kind.Receipt = 5
used kind.Ship = 6
used kind.Cum = 5
used kind.Reset = 5
used kind.Firm = 6
used kind.Policy = 8
used kind.Usage = 7
used kind.Vendor = 7
used kind.Day = 3
used kind.End = 2

-- the place of a kind in the order of the kinds
abbrev pub kind_place : Kind → ℕ
kind_place kind.Run = 0
kind_place kind.Plant = 1
kind_place kind.Pair = 2
kind_place kind.Bill = 3
kind_place kind.Demand = 4
kind_place kind.Receipt = 5
kind_place kind.Ship = 6
kind_place kind.Cum = 7
kind_place kind.Reset = 8
kind_place kind.Firm = 9
kind_place kind.Policy = 10
kind_place kind.Usage = 11
kind_place kind.Vendor = 12
kind_place kind.Day = 13
kind_place kind.End = 14

-- the run stands first and once, rows of one kind stand together, and nothing follows the end
abbrev pub may_follow : Kind → Kind → Bool
may_follow next last = nat_lt 0 (kind_place next) && nat_le (kind_place last) (kind_place next)
    && nat_lt (kind_place last) (kind_place kind.End)

-- a field is used, or empty
abbrev pub is_free : List (List ℕ) → ℕ → ℕ → Bool
is_free row used i = nat_lt i used || is_empty (field row i)

-- the fields that are not used are empty
abbrev pub is_empty_from : List (List ℕ) → ℕ → Bool
is_empty_from row used =
    is_free row used 1 && is_free row used 2 && is_free row used 3 && is_free row used 4 && is_free row used 5
    && is_free row used 6 && is_free row used 7

abbrev pub with_fields : List (List ℕ) → Kind → Result Kind TableFaultKind
with_fields row k = if is_empty_from row (used k) then Ok k else Err fault.FieldCount

-- the kind of a row of eight fields, of which those that the kind doesn't use are empty
unfoldable pub row_kind : List (List ℕ) → Result Kind TableFaultKind
row_kind row = do
  _ ← check (length row == 8) fault.FieldCount
  k ← ok_or (kind_of (field row 0)) fault.UnknownKind
  with_fields row k

abbrev pub name_field : List ℕ → Result (List ℕ) TableFaultKind
name_field text = if is_name text then Ok text else Err fault.BadName

abbrev pub ranged : List ℕ → ℕ → ℕ → Result ℕ TableFaultKind
ranged text low high = ok_or (number_within text low high) fault.BadNumber

-- ---- what a row spells, before its names are looked up

abbrev pub plant_terms : List (List ℕ) → Result (List ℕ) TableFaultKind
plant_terms row = name_field (field row 1)

pub record BillTerms : Type 0 where
  pub plant : List ℕ
  pub parent : List ℕ
  pub component : List ℕ
  pub per : ℕ

unfoldable pub bill_terms : List (List ℕ) → Result BillTerms TableFaultKind
bill_terms row = do
  plant ← name_field (field row 1)
  parent ← name_field (field row 2)
  component ← name_field (field row 3)
  per ← ranged (field row 4) 1 MOST_PER
  Ok (record { plant = plant; parent = parent; component = component; per = per })

-- a demand or a receipt row
pub record AmountTerms : Type 0 where
  pub plant : List ℕ
  pub item : List ℕ
  pub period : ℕ
  pub quantity : ℕ

unfoldable pub amount_terms : List (List ℕ) → ℕ → Result AmountTerms TableFaultKind
amount_terms row periods = do
  plant ← name_field (field row 1)
  item ← name_field (field row 2)
  period ← ranged (field row 3) 0 (periods - 1)
  quantity ← ranged (field row 4) 1 MOST_IN_ROW
  Ok (record { plant = plant; item = item; period = period; quantity = quantity })

-- a firm row: the order is due no earlier than it is released
pub record FirmTerms : Type 0 where
  pub plant : List ℕ
  pub item : List ℕ
  pub start : ℕ
  pub due : ℕ
  pub quantity : ℕ

unfoldable pub firm_terms : List (List ℕ) → ℕ → Result FirmTerms TableFaultKind
firm_terms row periods = do
  plant ← name_field (field row 1)
  item ← name_field (field row 2)
  start ← ranged (field row 3) 0 (periods - 1)
  due ← ranged (field row 4) start (periods - 1)
  quantity ← ranged (field row 5) 1 MOST_IN_ROW
  Ok (record { plant = plant; item = item; start = start; due = due; quantity = quantity })

-- a policy row: the planning time fence, how much sooner receipts may be counted, the periods that are covered ahead, and
-- the minimum and the multiple of an order
pub record PolicyTerms : Type 0 where
  pub plant : List ℕ
  pub item : List ℕ
  pub fence : ℕ
  pub sooner : ℕ
  pub cover : ℕ
  pub least : ℕ
  pub multiple : ℕ

unfoldable pub policy_terms : LimitSet → List (List ℕ) → ℕ → Result PolicyTerms TableFaultKind
policy_terms limits row periods = do
  plant ← name_field (field row 1)
  item ← name_field (field row 2)
  fence ← ranged (field row 3) 0 (periods - 1)
  sooner ← ranged (field row 4) 0 (limits_of limits).lead
  cover ← ranged (field row 5) 0 (limits_of limits).lead
  least ← ranged (field row 6) 0 MOST_IN_ROW
  multiple ← ranged (field row 7) 0 MOST_IN_ROW
  Ok (record {
    plant = plant;
    item = item;
    fence = fence;
    sooner = sooner;
    cover = cover;
    least = least;
    multiple = multiple;
  })

-- a usage row: of parents released from a period on, so many pieces of the component go into so many parents
pub record UsageTerms : Type 0 where
  pub plant : List ℕ
  pub parent : List ℕ
  pub component : List ℕ
  pub period : ℕ
  pub per : ℕ
  pub base : ℕ

unfoldable pub usage_terms : List (List ℕ) → ℕ → Result UsageTerms TableFaultKind
usage_terms row periods = do
  plant ← name_field (field row 1)
  parent ← name_field (field row 2)
  component ← name_field (field row 3)
  period ← ranged (field row 4) 0 (periods - 1)
  per ← ranged (field row 5) 0 MOST_PER
  base ← ranged (field row 6) 1 MOST_PER
  Ok (record { plant = plant; parent = parent; component = component; period = period; per = per; base = base })

-- a number, or none where the field is empty
abbrev pub ranged_if_any : List ℕ → ℕ → ℕ → Result (Option ℕ) TableFaultKind
ranged_if_any text low high =
    if is_empty text then Ok None else (ranged text low high >>= λ number. Ok (Some number))

-- a vendor row: who delivers the pair, the figure received, the pieces on their way, and from when figures start anew
pub record VendorTerms : Type 0 where
  pub vendor : List ℕ
  pub plant : List ℕ
  pub item : List ℕ
  pub figure : ℕ
  pub transit : ℕ
  pub reset : Option ℕ

unfoldable pub vendor_terms : List (List ℕ) → ℕ → Result VendorTerms TableFaultKind
vendor_terms row periods = do
  vendor ← name_field (field row 1)
  plant ← name_field (field row 2)
  item ← name_field (field row 3)
  figure ← ranged (field row 4) 0 MOST
  transit ← ranged (field row 5) 0 MOST
  reset ← ranged_if_any (field row 6) 0 (periods - 1)
  Ok (record { vendor = vendor; plant = plant; item = item; figure = figure; transit = transit; reset = reset })

-- the names of a row on what one plant ships to another
pub record LaneTerms : Type 0 where
  pub from : List ℕ
  pub to : List ℕ
  pub item : List ℕ

unfoldable pub lane_terms : List (List ℕ) → Result LaneTerms TableFaultKind
lane_terms row = do
  from ← name_field (field row 1)
  to ← name_field (field row 2)
  item ← name_field (field row 3)
  Ok (record { from = from; to = to; item = item })

unfoldable pub ship_terms : List (List ℕ) → ℕ → Result (LaneTerms × ℕ × ℕ) TableFaultKind
ship_terms row periods = do
  lane ← lane_terms row
  period ← ranged (field row 4) 0 (periods - 1)
  quantity ← ranged (field row 5) 1 MOST_IN_ROW
  Ok (lane, period, quantity)

-- the names of a lane and the number after them, which is at most so much
unfoldable pub lane_number : List (List ℕ) → ℕ → Result (LaneTerms × ℕ) TableFaultKind
lane_number row most = do
  lane ← lane_terms row
  number ← ranged (field row 4) 0 most
  Ok (lane, number)

pub record PairTerms : Type 0 where
  pub plant : List ℕ
  pub item : List ℕ
  pub supply : SupplyTerms
  pub rule : Rule
  pub lead : ℕ
  pub on_hand : ℕ
  pub safety : ℕ

unfoldable pub pair_terms : LimitSet → List (List ℕ) → Result PairTerms TableFaultKind
pair_terms limits row = do
  plant ← name_field (field row 1)
  item ← name_field (field row 2)
  lead ← ranged (field row 5) 0 (limits_of limits).lead
  on_hand ← ranged (field row 6) 0 MOST_IN_ROW
  safety ← ranged (field row 7) 0 MOST_IN_ROW
  rule ← ok_or (rule_of (limits_of limits).periods (field row 4)) fault.BadRule
  supply ← ok_or (supply_of (field row 3)) fault.BadSupply
  Ok (record {
    plant = plant;
    item = item;
    supply = supply;
    rule = rule;
    lead = lead;
    on_hand = on_hand;
    safety =
        safety;
  })

-- what a run row spells: the text of its first day, the days of a period and how many periods
pub record RunTerms : Type 0 where
  pub first : List ℕ
  pub days : ℕ
  pub periods : ℕ

unfoldable pub run_terms : LimitSet → List (List ℕ) → Result RunTerms TableFaultKind
run_terms limits row = do
  days ← ok_or (spelled_number (field row 2)) fault.BadNumber
  periods ← ranged (field row 3) 1 (limits_of limits).periods
  Ok (record { first = field row 1; days = days; periods = periods })

-- ---- what a row says, tested against the rows before it

-- the place of a plant and of a pair, which both have rows
unfoldable pub known_pair : Table → List ℕ → List ℕ → Result (PlantNo × PairNo) TableFaultKind
known_pair N plant item = do
  p ← ok_or (plant_no N plant) fault.UnknownPlant
  x ← ok_or (pair_named N (Some p) item) fault.UnknownPair
  Ok (record { 0 = p }, record { 0 = x })

abbrev pub has_bill : Table → Option ℕ → Option ℕ → Bool
has_bill N None component = false
has_bill N (Some x) None = false
has_bill N (Some x) (Some y) = list_any (λ b. (b.parent.0 == x) && (b.component.0 == y)) N.bills

abbrev pub is_make : Supply → Bool
is_make supply.Make = true
is_make supply.Buy = false
is_make supply.From = false

-- the pair at a place is made
abbrev pub is_made : Table → ℕ → Bool
is_made N x = unwrap_or (option_map (λ p. is_make p.supply) (slice_get N.pairs x)) false

unfoldable pub bill_fits : Table → BillTerms → Result BillRow TableFaultKind
bill_fits N t =
    let plant = plant_no N t.plant in
    let parent = pair_named N plant t.parent in
    let component = pair_named N plant t.component in
    do
      _ ← check (not (has_bill N parent component)) fault.Repeated
      _ ← check (is_some plant) fault.UnknownPlant
      x ← ok_or parent fault.UnknownPair
      y ← ok_or component fault.UnknownPair
      _ ← check (is_made N x) fault.NotMade
      _ ← check (nat_lt (length N.bills) (most N).bills) fault.TooMany
      Ok (record { parent = record { 0 = x }; component = record { 0 = y }; per = t.per })

-- the plant that ships and the pair that it ships to: both plants and the pair have rows, and the pair is taken from
-- the plant that ships
unfoldable pub known_lane : Table → LaneTerms → Result (PlantNo × PairNo) TableFaultKind
known_lane N t = do
  from ← ok_or (plant_no N t.from) fault.UnknownPlant
  to ← ok_or (plant_no N t.to) fault.UnknownPlant
  x ← ok_or (pair_named N (Some to) t.item) fault.UnknownPair
  _ ← check (is_taken_from N x from) fault.NotSourced
  Ok (record { 0 = from }, record { 0 = x })

-- a cum row of that plant and that pair
abbrev pub cum_between : Table → Option ℕ → Option ℕ → Bool
cum_between N None x = false
cum_between N (Some p) None = false
cum_between N (Some p) (Some x) = list_any (λ c. (c.from.0 == p) && (c.pair.0 == x)) N.cums

abbrev pub has_cum : Table → LaneTerms → Bool
has_cum N t = cum_between N (plant_no N t.from) (pair_named N (plant_no N t.to) t.item)

-- a reset row of that plant and that pair
abbrev pub reset_between : Table → Option ℕ → Option ℕ → Bool
reset_between N None x = false
reset_between N (Some p) None = false
reset_between N (Some p) (Some x) = list_any (λ r. (r.from.0 == p) && (r.pair.0 == x)) N.resets

abbrev pub has_reset : Table → LaneTerms → Bool
has_reset N t = reset_between N (plant_no N t.from) (pair_named N (plant_no N t.to) t.item)

-- a policy row of that pair
abbrev pub has_policy : Table → Option ℕ → Bool
has_policy N None = false
has_policy N (Some x) = list_any (λ p. p.pair.0 == x) N.policies

-- the pair at a place is bought
abbrev pub is_buy : Supply → Bool
is_buy supply.Make = false
is_buy supply.Buy = true
is_buy supply.From = false

abbrev pub is_bought : Table → ℕ → Bool
is_bought N x = unwrap_or (option_map (λ p. is_buy p.supply) (slice_get N.pairs x)) false

-- a vendor row of that pair
abbrev pub has_vendor : Table → Option ℕ → Bool
has_vendor N None = false
has_vendor N (Some x) = list_any (λ v. v.pair.0 == x) N.vendors

-- a usage row of that parent and that component from that period on
abbrev pub has_usage : Table → Option ℕ → Option ℕ → ℕ → Bool
has_usage N None component t = false
has_usage N (Some x) None t = false
has_usage N (Some x) (Some y) t = list_any (λ u. (u.parent.0 == x) && (u.component.0 == y) && (u.period == t)) N.usages

-- how much of a component goes into its parent, by what a usage row spells
abbrev pub usage_made : ℕ → ℕ → UsageTerms → UsageRow
usage_made x y t =
    record {
      parent = record { 0 = x };
      component = record { 0 = y };
      period = t.period;
      usage = record { per = t.per; base = t.base };
    }

unfoldable pub usage_fits : Table → UsageTerms → Result UsageRow TableFaultKind
usage_fits N t =
    let plant = plant_no N t.plant in
    let parent = pair_named N plant t.parent in
    let component = pair_named N plant t.component in
    do
      _ ← check (not (has_usage N parent component t.period)) fault.Repeated
      _ ← check (is_some plant) fault.UnknownPlant
      x ← ok_or parent fault.UnknownPair
      y ← ok_or component fault.UnknownPair
      _ ← check (is_joined N x y) fault.NotMade
      _ ← check (nat_lt (length N.usages) (most N).bills) fault.TooMany
      Ok (usage_made x y t)

-- ---- the table with one row more, or the first fault of the row

-- the name of a new plant
unfoldable pub plant_in_row : Table → List (List ℕ) → Result (List ℕ) TableFaultKind
plant_in_row N row = do
  name ← plant_terms row
  _ ← check (not (has_plant N name)) fault.Repeated
  _ ← check (nat_lt (length N.plants) (most N).plants) fault.TooMany
  Ok name

abbrev pub plant_row : Table → List (List ℕ) → Result Table TableFaultKind
plant_row N row = plant_in_row N row >>= λ x. Ok (with_plant N x)

abbrev pub supply_kind : SupplyTerms → Supply
supply_kind MakeTerms = supply.Make
supply_kind BuyTerms = supply.Buy
supply_kind (FromTerms sources) = supply.From

-- each source is a plant with a row
abbrev pub knows_sources : Table → List SourceTerms → Bool
knows_sources N sources = list_all (λ s. has_plant N s.plant) sources

-- the plant of a pair row that fits the rows before it
unfoldable pub pair_fits : Table → PairTerms → Result PlantNo TableFaultKind
pair_fits N t = do
  _ ← check (not (is_some (pair_named N (plant_no N t.plant) t.item))) fault.Repeated
  plant ← ok_or (plant_no N t.plant) fault.UnknownPlant
  _ ← check (knows_sources N (named_sources t.supply)) fault.UnknownPlant
  _ ← check (not (names_plant (named_sources t.supply) t.plant)) fault.SelfSource
  _ ← check (nat_lt (length N.pairs) (most N).pairs) fault.TooMany
  Ok (record { 0 = plant })

-- a pair row with its item's place among the items
abbrev pub pair_with : List (List ℕ) → PlantNo → PairTerms → PairRow
pair_with items plant t =
    record {
      plant = plant;
      item = record { 0 = unwrap_or (position (bytes_eq t.item) items) 0 };
      supply = supply_kind t.supply;
      rule = t.rule;
      lead = t.lead;
      on_hand = t.on_hand;
      safety = t.safety;
    }

-- a source of the pair at a place
abbrev pub source_row : Table → ℕ → SourceTerms → SourceRow
source_row N x s =
    record {
      pair = record { 0 = x };
      plant = record { 0 = unwrap_or (plant_no N s.plant) 0 };
      low = s.low;
      high =
          s.high;
    }

-- the table with a pair more, its item where that is new, and its sources
abbrev pub with_pair_terms : Table → PlantNo → PairTerms → Table
with_pair_terms N plant t = record N {
  items = add_item N.items t.item;
  pairs = N.pairs ++ pair_with (add_item N.items t.item) plant t ∷ [];
  sources = N.sources ++ map (source_row N (length N.pairs)) (named_sources t.supply);
}

abbrev pub pair_row : Table → List (List ℕ) → Result Table TableFaultKind
pair_row N row = pair_terms N.limits row >>= λ t. pair_fits N t >>= λ plant. Ok (with_pair_terms N plant t)

abbrev pub bill_of : Table → List (List ℕ) → Result BillRow TableFaultKind
bill_of N row = bill_terms row >>= bill_fits N

-- what is made of the pair, the period and the quantity of a demand or a receipt row, where there is room for one more
abbrev pub amount_row : {A : Type 0} → Table → List (List ℕ) → Bool → (PairNo → ℕ → ℕ → A) → Result A TableFaultKind
amount_row N row has_room made = do
  t ← amount_terms row (horizon N)
  found ← known_pair N t.plant t.item
  _ ← check has_room fault.TooMany
  Ok (made found.1 t.period t.quantity)

abbrev pub demand_made : PairNo → ℕ → ℕ → DemandRow
demand_made pair period quantity = record { pair = pair; period = period; quantity = quantity }

abbrev pub receipt_made : PairNo → ℕ → ℕ → ReceiptRow
receipt_made pair period quantity = record { pair = pair; period = period; quantity = quantity }

unfoldable pub demand_of : Table → List (List ℕ) → Result DemandRow TableFaultKind
demand_of N row = amount_row N row (nat_lt (length N.demands) (most N).demands) demand_made

unfoldable pub receipt_of : Table → List (List ℕ) → Result ReceiptRow TableFaultKind
receipt_of N row = amount_row N row (nat_lt (length N.receipts) (most N).of_a_kind) receipt_made

unfoldable pub ship_of : Table → List (List ℕ) → Result ShipRow TableFaultKind
ship_of N row = do
  t ← ship_terms row (horizon N)
  lane ← known_lane N t.0
  _ ← check (nat_lt (length N.ships) (most N).of_a_kind) fault.TooMany
  Ok (record { from = lane.0; pair = lane.1; period = t.1; quantity = t.2 })

unfoldable pub cum_of : Table → List (List ℕ) → Result CumRow TableFaultKind
cum_of N row = do
  t ← lane_number row MOST
  _ ← check (not (has_cum N t.0)) fault.Repeated
  lane ← known_lane N t.0
  _ ← check (nat_lt (length N.cums) (most N).of_a_kind) fault.TooMany
  Ok (record { from = lane.0; pair = lane.1; figure = t.1 })

unfoldable pub reset_in_row : Table → List (List ℕ) → Result ResetRow TableFaultKind
reset_in_row N row = do
  t ← lane_number row (horizon N - 1)
  _ ← check (not (has_reset N t.0)) fault.Repeated
  lane ← known_lane N t.0
  _ ← check (rises_from 0 (arrivals N lane.0.0 lane.1.0)) fault.ResetOrder
  Ok (record { from = lane.0; pair = lane.1; period = t.1 })

unfoldable pub firm_of : Table → List (List ℕ) → Result FirmRow TableFaultKind
firm_of N row = do
  t ← firm_terms row (horizon N)
  found ← known_pair N t.plant t.item
  _ ← check (nat_lt (length N.firms) (most N).of_a_kind) fault.TooMany
  Ok (record { pair = found.1; start = t.start; due = t.due; quantity = t.quantity })

-- how a pair is planned, by what a policy row spells
abbrev pub policy_made : PairNo → PolicyTerms → PolicyRow
policy_made pair t =
    record {
      pair = pair;
      policy = record {
        fence = t.fence;
        sooner = t.sooner;
        cover = t.cover;
        least = t.least;
        multiple = t.multiple;
      };
    }

unfoldable pub policy_of : Table → List (List ℕ) → Result PolicyRow TableFaultKind
policy_of N row = do
  t ← policy_terms N.limits row (horizon N)
  _ ← check (not (has_policy N (pair_named N (plant_no N t.plant) t.item))) fault.Repeated
  found ← known_pair N t.plant t.item
  Ok (policy_made found.1 t)

abbrev pub usage_of : Table → List (List ℕ) → Result UsageRow TableFaultKind
usage_of N row = usage_terms row (horizon N) >>= usage_fits N

-- who delivers a pair, by what a vendor row spells
abbrev pub vendor_made : PairNo → VendorTerms → Vendor
vendor_made pair t =
    record { name = t.vendor; pair = pair; figure = t.figure; transit = t.transit; reset = t.reset }

unfoldable pub vendor_fits : Table → VendorTerms → Result Vendor TableFaultKind
vendor_fits N t = do
  _ ← check (not (has_vendor N (pair_named N (plant_no N t.plant) t.item))) fault.Repeated
  found ← known_pair N t.plant t.item
  _ ← check (is_bought N found.1.0) fault.NotSourced
  _ ← check (not (has_plant N t.vendor)) fault.SelfSource
  Ok (vendor_made found.1 t)

abbrev pub vendor_in_row : Table → List (List ℕ) → Result Vendor TableFaultKind
vendor_in_row N row = vendor_terms row (horizon N) >>= vendor_fits N

-- a calendar whose period begins on a given date, or the fault of the date
abbrev pub begun_or_fault : Result CalendarTerms CalFault → Result CalendarTerms TableFaultKind
begun_or_fault (Ok c) = Ok c
begun_or_fault (Err e) = Err (fault.CalendarFault e)

-- a day row: its period is above those of the day rows before it
unfoldable pub day_in_row : Table → List (List ℕ) → Result CalendarTerms TableFaultKind
day_in_row N row = do
  period ← ranged (field row 1) (latest_begun N.calendar + 1) (horizon N - 1)
  begun_or_fault (begins N.calendar period (field row 2))

-- an end row says how many rows stand above it
unfoldable pub end_in_row : Table → List (List ℕ) → Result ℕ TableFaultKind
end_in_row N row = ranged (field row 1) (row_count N) (row_count N)

abbrev pub bill_row : Table → List (List ℕ) → Result Table TableFaultKind
bill_row N row = bill_of N row >>= λ x. Ok (with_bill N x)

abbrev pub demand_row : Table → List (List ℕ) → Result Table TableFaultKind
demand_row N row = demand_of N row >>= λ x. Ok (with_demand N x)

abbrev pub receipt_row : Table → List (List ℕ) → Result Table TableFaultKind
receipt_row N row = receipt_of N row >>= λ x. Ok (with_receipt N x)

abbrev pub ship_row : Table → List (List ℕ) → Result Table TableFaultKind
ship_row N row = ship_of N row >>= λ x. Ok (with_ship N x)

abbrev pub cum_row : Table → List (List ℕ) → Result Table TableFaultKind
cum_row N row = cum_of N row >>= λ x. Ok (with_cum N x)

abbrev pub reset_row : Table → List (List ℕ) → Result Table TableFaultKind
reset_row N row = reset_in_row N row >>= λ x. Ok (with_reset N x)

abbrev pub firm_row : Table → List (List ℕ) → Result Table TableFaultKind
firm_row N row = firm_of N row >>= λ x. Ok (with_firm N x)

abbrev pub policy_row : Table → List (List ℕ) → Result Table TableFaultKind
policy_row N row = policy_of N row >>= λ x. Ok (with_policy N x)

abbrev pub usage_row : Table → List (List ℕ) → Result Table TableFaultKind
usage_row N row = usage_of N row >>= λ x. Ok (with_usage N x)

abbrev pub vendor_row : Table → List (List ℕ) → Result Table TableFaultKind
vendor_row N row = vendor_in_row N row >>= λ x. Ok (with_vendor N x)

abbrev pub day_row : Table → List (List ℕ) → Result Table TableFaultKind
day_row N row = day_in_row N row >>= λ c. Ok (with_calendar N c)

abbrev pub end_row : Table → List (List ℕ) → Result Table TableFaultKind
end_row N row = end_in_row N row >>= λ rows. Ok (with_end N)
