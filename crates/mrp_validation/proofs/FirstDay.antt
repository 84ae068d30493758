-- The first of validation's tests that a day row fails is the fault that it has.
use Rattle.std.proofs.Common.{◌≡◌, ℕ, ◌+◌, ◌-◌, ◌&&◌, Bool, true, false, cond, if◌then◌else◌, not, nat_le, nat_lt, List, Option, Some, None}
use Rattle.std.proofs.Common.{is_some, unwrap_or, Ok, Err, ok_or, refl, sym, ap, ◌∙◌, arith}
use Rattle.std.specs.Result.{result_err}
use Rattle.std.proofs.lemmas.Bool.Decides.{nat_tests}
use Rattle.mrp_cal.specs.Begins.{begins, begun_on, begun_with, day_spelled, latest_begun}
use Rattle.mrp_cal.specs.Calendar.{CalendarTerms, first_day, last_date, last_day}
use Rattle.mrp_cal.specs.declared.fault.CalFault.TheVariants as cal
use Rattle.mrp_master_data.specs.Table.{horizon, Table}
use Rattle.mrp_master_data.specs.Parsing.{number_within}
use Rattle.mrp_validation.specs.declared.fault.TableFaultKind.TheVariants as fault
use Rattle.mrp_validation.specs.declared.kind.Kind.TheVariants as kind
use Rattle.mrp_validation.specs.Faults.{faults_of_kind}
use Rattle.mrp_validation.specs.Grammar.{◌>>=◌, begun_or_fault, day_in_row, field}
use Rattle.mrp_validation.specs.Tests.{day_passes, first_failed}

-- a number is at most another one, or the other one is below it
within : (m n : ℕ) → nat_le m n ≡ not (nat_lt n m)
within m n = grind (arith, nat_tests)

-- where it begins late enough the last period ends in time, or after the last date
ends : (later late : Bool) (d : CalendarTerms)
    → result_err (begun_or_fault (if later then (if late then Err cal.PastEnd else Ok d) else Err cal.BadDate))
    ≡ cond (not later) (Some (fault.CalendarFault cal.BadDate)) (cond (not (not late)) (Some (fault.CalendarFault cal.PastEnd)) None)
ends false late d = refl
ends true false d = refl
ends true true d = refl

-- a date for a period
begins_refusal : (c : CalendarTerms) (period : ℕ) (spelled : Option ℕ) → result_err (begun_or_fault (begun_on c period spelled))
    ≡ cond (not (is_some spelled && nat_lt (first_day c (period - 1)) (unwrap_or spelled 0))) (Some (fault.CalendarFault cal.BadDate))
    (cond (not (nat_le (last_day (begun_with c period (unwrap_or spelled 0))) last_date)) (Some (fault.CalendarFault cal.PastEnd)) None)
begins_refusal c period None = refl
begins_refusal c period (Some day) =
    let d = begun_with c period day in
    ends (nat_lt (first_day c (period - 1)) day) (nat_lt last_date (last_day d)) d
    ∙ ap (λ b. cond (not (nat_lt (first_day c (period - 1)) day)) (Some (fault.CalendarFault cal.BadDate)) (cond (not b)
    (Some (fault.CalendarFault cal.PastEnd)) None)) (sym (within (last_day d) last_date))

pub day-first : (N : Table) (row : List (List ℕ)) → result_err (day_in_row N row) ≡ first_failed (day_passes N row) (faults_of_kind kind.Day)
unfolding day_in_row begins
day-first N row = by (number_within (field row 1) (latest_begun N.calendar + 1) (horizon N - 1))
  where
    by : (o : Option ℕ) → result_err (ok_or o fault.BadNumber >>= λ p. begun_or_fault (begins N.calendar p (field row 2)))
        ≡ cond (not (is_some o)) (Some fault.BadNumber)
        (cond (not (is_some (day_spelled (field row 2)) && nat_lt (first_day N.calendar (unwrap_or o 0 - 1)) (unwrap_or (day_spelled (field row 2)) 0)))
        (Some (fault.CalendarFault cal.BadDate))
        (cond (not (nat_le (last_day (begun_with N.calendar (unwrap_or o 0) (unwrap_or (day_spelled (field row 2)) 0))) last_date))
        (Some (fault.CalendarFault cal.PastEnd)) None))
    by None = refl
    by (Some p) = begins_refusal N.calendar p (day_spelled (field row 2))
