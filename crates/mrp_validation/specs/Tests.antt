-- Validation's tests of a row, one for each fault that it may have, whatever the others answer; of what isn't there a
-- test says anything, since an earlier one tells that it isn't. The first test of the list that a row fails is the
-- fault that it has.
use Rattle.std.specs.Prelude.{◌≡◌, ℕ, ◌+◌, ◌-◌, ◌==◌, ◌&&◌, ◌||◌, not, nat_le, nat_lt, Bool, true, false}
use Rattle.std.specs.Prelude.{List, [], ◌∷◌, ◌++◌, length, find, Option, Some, None, is_some, option_map, unwrap_or}
use Rattle.std.specs.Result.{result_err}
use Rattle.std.specs.List.{list_all}
use Rattle.std.specs.Str.{is_utf8}
use Rattle.mrp_cal.specs.Begins.{begun_with, day_spelled, latest_begun}
use Rattle.mrp_cal.specs.Calendar.{first_day, last_date, last_day}
use Rattle.mrp_cal.specs.declared.fault.CalFault.TheVariants as cal
use Rattle.mrp_qty.specs.Limits.{limits_of}
use Rattle.mrp_qty.specs.declared.limits.LimitSet.{LimitSet}
use Rattle.mrp_qty.specs.declared.quantity.TheConstants.{MOST}
use Rattle.mrp_qty.specs.declared.limits.TheConstants.{MOST_IN_ROW, MOST_PER}
use Rattle.mrp_master_data.specs.Names.{has_plant, pair_named, plant_no}
use Rattle.mrp_master_data.specs.Table.{arrivals, horizon, is_joined, is_taken_from, most, rises_from, Table}
use Rattle.mrp_master_data.specs.Spelling.{is_name}
use Rattle.mrp_master_data.specs.Parsing.{spelled_number, number_within, rule_of}
use Rattle.mrp_master_data.specs.Supplies.{SourceTerms}
use Rattle.mrp_master_data.specs.Turns.{row_count}
use Rattle.mrp_master_data.specs.SupplyParsing.{named_sources, names_plant, supply_of}
use Rattle.mrp_validation.specs.declared.fault.TableFaultKind.{TableFaultKind}
use Rattle.mrp_validation.specs.declared.fault.TableFaultKind.TheVariants as fault
use Rattle.mrp_validation.specs.declared.kind.Kind.{Kind}
use Rattle.mrp_validation.specs.declared.kind.Kind.TheVariants as kind
use Rattle.mrp_validation.specs.Faults.{faults_of, faults_of_any}
use Rattle.mrp_validation.specs.Grammar.{cum_between, field, has_bill, is_empty_from, is_made, kind_of, knows_sources}
use Rattle.mrp_validation.specs.Grammar.{has_policy, has_usage, has_vendor, is_bought, is_empty, may_follow}
use Rattle.mrp_validation.specs.Grammar.{reset_between, used}
use Rattle.mrp_validation.specs.Reading.{first_terms, is_run, kind_of_row, row_after}

-- ---- what the fields of a row say, as far as it is there

abbrev pub two_names : List (List ℕ) → Bool
two_names row = is_name (field row 1) && is_name (field row 2)

abbrev pub three_names : List (List ℕ) → Bool
three_names row = is_name (field row 1) && is_name (field row 2) && is_name (field row 3)

abbrev pub has_number : List (List ℕ) → ℕ → ℕ → ℕ → Bool
has_number row i low high = is_some (number_within (field row i) low high)

-- the plant that a field names, and the pair that the fields of a plant and an item name
abbrev pub plant_in : Table → List (List ℕ) → ℕ → Option ℕ
plant_in N row i = plant_no N (field row i)

abbrev pub pair_in : Table → List (List ℕ) → ℕ → ℕ → Option ℕ
pair_in N row i j = pair_named N (plant_in N row i) (field row j)

-- the sources of a pair row
abbrev pub sources_in : List (List ℕ) → List SourceTerms
sources_in row = unwrap_or (option_map named_sources (supply_of (field row 3))) []

-- the pair is taken from the plant, and its shipments stand in the order of their arrival
abbrev pub is_lane : Table → Option ℕ → Option ℕ → Bool
is_lane N None x = false
is_lane N (Some p) None = false
is_lane N (Some p) (Some x) = is_taken_from N x p

abbrev pub is_in_order : Table → Option ℕ → Option ℕ → Bool
is_in_order N None x = false
is_in_order N (Some p) None = false
is_in_order N (Some p) (Some x) = rises_from 0 (arrivals N p x)

-- a bill row joins the two pairs
abbrev pub are_joined : Table → Option ℕ → Option ℕ → Bool
are_joined N None component = false
are_joined N (Some x) None = false
are_joined N (Some x) (Some y) = is_joined N x y

-- ---- the tests of each kind of row: true where a row passes the test of a fault

abbrev pub plant_passes : Table → List (List ℕ) → TableFaultKind → Bool
plant_passes N row fault.BadName = is_name (field row 1)
plant_passes N row fault.Repeated = not (has_plant N (field row 1))
plant_passes N row fault.TooMany = nat_lt (length N.plants) (most N).plants
plant_passes N row e = true

abbrev pub pair_passes : Table → List (List ℕ) → TableFaultKind → Bool
pair_passes N row fault.BadName = two_names row
pair_passes N row fault.BadNumber = has_number row 5 0 (most N).lead && has_number row 6 0 MOST_IN_ROW
    && has_number row 7 0 MOST_IN_ROW
pair_passes N row fault.BadRule = is_some (rule_of (most N).periods (field row 4))
pair_passes N row fault.BadSupply = is_some (supply_of (field row 3))
pair_passes N row fault.Repeated = not (is_some (pair_in N row 1 2))
pair_passes N row fault.UnknownPlant = is_some (plant_in N row 1) && knows_sources N (sources_in row)
pair_passes N row fault.SelfSource = not (names_plant (sources_in row) (field row 1))
pair_passes N row fault.TooMany = nat_lt (length N.pairs) (most N).pairs
pair_passes N row e = true

abbrev pub bill_passes : Table → List (List ℕ) → TableFaultKind → Bool
bill_passes N row fault.BadName = three_names row
bill_passes N row fault.BadNumber = has_number row 4 1 MOST_PER
bill_passes N row fault.Repeated = not (has_bill N (pair_in N row 1 2) (pair_in N row 1 3))
bill_passes N row fault.UnknownPlant = is_some (plant_in N row 1)
bill_passes N row fault.UnknownPair = is_some (pair_in N row 1 2) && is_some (pair_in N row 1 3)
bill_passes N row fault.NotMade = unwrap_or (option_map (is_made N) (pair_in N row 1 2)) false
bill_passes N row fault.TooMany = nat_lt (length N.bills) (most N).bills
bill_passes N row e = true

-- a demand or a receipt row, with room for it or without
abbrev pub amount_passes : Bool → Table → List (List ℕ) → TableFaultKind → Bool
amount_passes room N row fault.BadName = two_names row
amount_passes room N row fault.BadNumber = has_number row 3 0 (horizon N - 1) && has_number row 4 1 MOST_IN_ROW
amount_passes room N row fault.UnknownPlant = is_some (plant_in N row 1)
amount_passes room N row fault.UnknownPair = is_some (pair_in N row 1 2)
amount_passes room N row fault.TooMany = room
amount_passes room N row e = true

-- the first period that an order may be due in, by the period of its release in the field before
abbrev pub first_due : Table → List (List ℕ) → ℕ
first_due N row = unwrap_or (number_within (field row 3) 0 (horizon N - 1)) 0

abbrev pub firm_passes : Table → List (List ℕ) → TableFaultKind → Bool
firm_passes N row fault.BadName = two_names row
firm_passes N row fault.BadNumber = has_number row 3 0 (horizon N - 1)
    && has_number row 4 (first_due N row) (horizon N - 1) && has_number row 5 1 MOST_IN_ROW
firm_passes N row fault.UnknownPlant = is_some (plant_in N row 1)
firm_passes N row fault.UnknownPair = is_some (pair_in N row 1 2)
firm_passes N row fault.TooMany = nat_lt (length N.firms) (most N).of_a_kind
firm_passes N row e = true

abbrev pub policy_passes : Table → List (List ℕ) → TableFaultKind → Bool
policy_passes N row fault.BadName = two_names row
policy_passes N row fault.BadNumber = has_number row 3 0 (horizon N - 1) && has_number row 4 0 (most N).lead
    && has_number row 5 0 (most N).lead && has_number row 6 0 MOST_IN_ROW && has_number row 7 0 MOST_IN_ROW
policy_passes N row fault.Repeated = not (has_policy N (pair_in N row 1 2))
policy_passes N row fault.UnknownPlant = is_some (plant_in N row 1)
policy_passes N row fault.UnknownPair = is_some (pair_in N row 1 2)
policy_passes N row e = true

-- the period in the field after three names
abbrev pub period_after_names : Table → List (List ℕ) → ℕ
period_after_names N row = unwrap_or (number_within (field row 4) 0 (horizon N - 1)) 0

abbrev pub usage_passes : Table → List (List ℕ) → TableFaultKind → Bool
usage_passes N row fault.BadName = three_names row
usage_passes N row fault.BadNumber = has_number row 4 0 (horizon N - 1) && has_number row 5 0 MOST_PER
    && has_number row 6 1 MOST_PER
usage_passes N row fault.Repeated =
    not (has_usage N (pair_in N row 1 2) (pair_in N row 1 3) (period_after_names N row))
usage_passes N row fault.UnknownPlant = is_some (plant_in N row 1)
usage_passes N row fault.UnknownPair = is_some (pair_in N row 1 2) && is_some (pair_in N row 1 3)
usage_passes N row fault.NotMade = are_joined N (pair_in N row 1 2) (pair_in N row 1 3)
usage_passes N row fault.TooMany = nat_lt (length N.usages) (most N).bills
usage_passes N row e = true

-- a row on a lane, whose numbers are good or not, which repeats none, and for which there is room, or not
abbrev pub lane_passes : Bool → Bool → Bool → Table → List (List ℕ) → TableFaultKind → Bool
lane_passes numbers new room N row fault.BadName = three_names row
lane_passes numbers new room N row fault.BadNumber = numbers
lane_passes numbers new room N row fault.Repeated = new
lane_passes numbers new room N row fault.UnknownPlant = is_some (plant_in N row 1) && is_some (plant_in N row 2)
lane_passes numbers new room N row fault.UnknownPair = is_some (pair_in N row 2 3)
lane_passes numbers new room N row fault.NotSourced = is_lane N (plant_in N row 1) (pair_in N row 2 3)
lane_passes numbers new room N row fault.TooMany = room
lane_passes numbers new room N row fault.ResetOrder = is_in_order N (plant_in N row 1) (pair_in N row 2 3)
lane_passes numbers new room N row e = true

abbrev pub ship_passes : Table → List (List ℕ) → TableFaultKind → Bool
ship_passes N row = lane_passes (has_number row 4 0 (horizon N - 1) && has_number row 5 1 MOST_IN_ROW) true
    (nat_lt (length N.ships) (most N).of_a_kind) N row

abbrev pub cum_passes : Table → List (List ℕ) → TableFaultKind → Bool
cum_passes N row =
    lane_passes (has_number row 4 0 MOST) (not (cum_between N (plant_in N row 1) (pair_in N row 2 3)))
    (nat_lt (length N.cums) (most N).of_a_kind) N row

abbrev pub reset_passes : Table → List (List ℕ) → TableFaultKind → Bool
reset_passes N row = lane_passes (has_number row 4 0 (horizon N - 1))
    (not (reset_between N (plant_in N row 1) (pair_in N row 2 3))) true N row

-- the plant and the item of a vendor row stand behind the vendor's name
abbrev pub vendor_passes : Table → List (List ℕ) → TableFaultKind → Bool
vendor_passes N row fault.BadName = three_names row
vendor_passes N row fault.BadNumber = has_number row 4 0 MOST && has_number row 5 0 MOST
    && (is_empty (field row 6) || has_number row 6 0 (horizon N - 1))
vendor_passes N row fault.Repeated = not (has_vendor N (pair_in N row 2 3))
vendor_passes N row fault.UnknownPlant = is_some (plant_in N row 2)
vendor_passes N row fault.UnknownPair = is_some (pair_in N row 2 3)
vendor_passes N row fault.NotSourced = unwrap_or (option_map (is_bought N) (pair_in N row 2 3)) false
vendor_passes N row fault.SelfSource = not (has_plant N (field row 1))
vendor_passes N row e = true

-- the period of a day row, above those of the day rows before it, and the day of its date
abbrev pub period_begun : Table → List (List ℕ) → ℕ
period_begun N row = unwrap_or (number_within (field row 1) (latest_begun N.calendar + 1) (horizon N - 1)) 0

abbrev pub day_begun : List (List ℕ) → ℕ
day_begun row = unwrap_or (day_spelled (field row 2)) 0

abbrev pub day_passes : Table → List (List ℕ) → TableFaultKind → Bool
day_passes N row fault.BadNumber = has_number row 1 (latest_begun N.calendar + 1) (horizon N - 1)
day_passes N row (fault.CalendarFault cal.BadDate) =
    is_some (day_spelled (field row 2)) && nat_lt (first_day N.calendar (period_begun N row - 1)) (day_begun row)
day_passes N row (fault.CalendarFault cal.PastEnd) =
    nat_le (last_day (begun_with N.calendar (period_begun N row) (day_begun row))) last_date
day_passes N row e = true

-- an end row says how many rows stand above it
abbrev pub end_passes : Table → List (List ℕ) → TableFaultKind → Bool
end_passes N row fault.BadNumber = has_number row 1 (row_count N) (row_count N)
end_passes N row e = true

-- a row of that kind; a run row stands first, and no other is one
abbrev pub passes_of : Option Kind → Table → List (List ℕ) → TableFaultKind → Bool
passes_of None N row e = true
passes_of (Some kind.Run) N row e = true
passes_of (Some kind.Plant) N row e = plant_passes N row e
passes_of (Some kind.Pair) N row e = pair_passes N row e
passes_of (Some kind.Bill) N row e = bill_passes N row e
passes_of (Some kind.Demand) N row e = amount_passes (nat_lt (length N.demands) (most N).demands) N row e
passes_of (Some kind.Receipt) N row e = amount_passes (nat_lt (length N.receipts) (most N).of_a_kind) N row e
passes_of (Some kind.Ship) N row e = ship_passes N row e
passes_of (Some kind.Cum) N row e = cum_passes N row e
passes_of (Some kind.Reset) N row e = reset_passes N row e
passes_of (Some kind.Firm) N row e = firm_passes N row e
passes_of (Some kind.Policy) N row e = policy_passes N row e
passes_of (Some kind.Usage) N row e = usage_passes N row e
passes_of (Some kind.Vendor) N row e = vendor_passes N row e
passes_of (Some kind.Day) N row e = day_passes N row e
passes_of (Some kind.End) N row e = end_passes N row e

-- ---- the tests of every row

-- the fields that the kind doesn't use are empty
abbrev pub fits_kind : List (List ℕ) → Option Kind → Bool
fits_kind row None = true
fits_kind row (Some k) = is_empty_from row (used k)

-- the kind may stand where it does
abbrev pub stands_well : (Kind → Bool) → Option Kind → Bool
stands_well may None = true
stands_well may (Some k) = may k

-- a row that names that kind, where kinds may stand as is said, and whose own tests are these
abbrev pub row_passes : Option Kind → (Kind → Bool) → (TableFaultKind → Bool) → List (List ℕ) → TableFaultKind → Bool
row_passes named may own row fault.NotUtf8 = list_all is_utf8 row
row_passes named may own row fault.FieldCount = (length row == 8) && fits_kind row named
row_passes named may own row fault.UnknownKind = is_some named
row_passes named may own row fault.KindOrder = stands_well may named
row_passes named may own row e = own e

-- a row after the first, below those of a table of which the last is of that kind
abbrev pub passes : Table × Kind → List (List ℕ) → TableFaultKind → Bool
passes s row = row_passes (kind_of (field row 0)) (λ k. may_follow k s.1)
    (passes_of (kind_of (field row 0)) s.0 row) row

-- the first row, before its calendar's faults
abbrev pub run_passes : LimitSet → List (List ℕ) → TableFaultKind → Bool
run_passes limits row fault.BadNumber =
    is_some (spelled_number (field row 2)) && has_number row 3 1 (limits_of limits).periods
run_passes limits row e = row_passes (kind_of (field row 0)) is_run (λ f. true) row e

-- ---- the fault that a row has

-- the first of those faults whose test isn't passed, if there is one
abbrev pub first_failed : (TableFaultKind → Bool) → List TableFaultKind → Option TableFaultKind
first_failed passed faults = find (λ e. not (passed e)) faults

-- a row is refused for the first fault of its list whose test it fails, and taken where it passes all of them: as the
-- first row, which then has its calendar or the first of its calendar's faults, and as a later one whatever the rows
-- above it
pub record HasFirstFault (row : List (List ℕ)) : Type 0 where
  pub first : (limits : LimitSet)
      → result_err (first_terms limits row)
      ≡ first_failed (run_passes limits row) (faults_of_any ++ fault.BadNumber ∷ [])
  pub later : (s : Table × Kind)
      → result_err (row_after s row) ≡ first_failed (passes s row) (faults_of (kind_of_row row))
