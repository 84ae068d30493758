-- Each fault that validation may find in a day row stands in its list.
use Rattle.std.proofs.Common.{ℕ, ◌+◌, ◌-◌, Bool, true, false, if◌then◌else◌, nat_lt, List, Option, Some, None, Ok, Err, IfErr}
use Rattle.mrp_cal.specs.Begins.{begins, begun_on, begun_with, day_spelled, latest_begun}
use Rattle.mrp_cal.specs.Calendar.{CalendarTerms, first_day, last_date, last_day}
use Rattle.mrp_cal.specs.declared.fault.CalFault.TheVariants as cal
use Rattle.mrp_master_data.specs.Parsing.{number_within}
use Rattle.mrp_master_data.specs.Table.{horizon, Table}
use Rattle.mrp_validation.specs.declared.fault.TableFaultKind.{TableFaultKind}
use Rattle.mrp_validation.specs.declared.fault.TableFaultKind.TheVariants as fault
use Rattle.mrp_validation.specs.Grammar.{begun_or_fault, day_in_row, field}
use Rattle.mrp_validation.proofs.KeepingSteps.{found, steps}

module _ (P : TableFaultKind → Type 0) (date : P (fault.CalendarFault cal.BadDate)) (end : P (fault.CalendarFault cal.PastEnd)) where
  ends : (later late : Bool) (d : CalendarTerms) → IfErr (begun_or_fault (if later then (if late then Err cal.PastEnd else Ok d) else Err cal.BadDate)) P
  ends false late d = date
  ends true false d = tt
  ends true true d = end

  begins_listed : (c : CalendarTerms) (period : ℕ) (spelled : Option ℕ) → IfErr (begun_or_fault (begun_on c period spelled)) P
  begins_listed c period None = date
  begins_listed c period (Some day) =
      let d = begun_with c period day in
      ends (nat_lt (first_day c (period - 1)) day) (nat_lt last_date (last_day d)) d

  pub day_listed : (N : Table) (row : List (List ℕ)) → P fault.BadNumber → IfErr (day_in_row N row) P
  unfolding day_in_row begins
  day_listed N row n =
      steps P _ _ (found P (number_within (field row 1) (latest_begun N.calendar + 1) (horizon N - 1)) _ n)
      (λ period. begins_listed N.calendar period (day_spelled (field row 2)))
