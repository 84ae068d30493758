-- A valid day row more: the calendar has one period more whose first day is given, and nothing else changes. Or a valid end
-- row: the table says that it ends, and nothing else changes.
use Rattle.std.proofs.Common.{◌≡◌, ℕ, ◌+◌, ◌-◌, Bool, List, Result, Ok, Err, ap, arith}
use Rattle.mrp_cal.specs.Begins.{begins, latest_begun}
use Rattle.mrp_cal.specs.Calendar.{CalendarTerms, IsCalendar}
use Rattle.mrp_cal.specs.declared.fault.CalFault.{CalFault}
use Rattle.mrp_cal.proofs.BegunFacts.{begun-begins, begun-is}
use Rattle.mrp_master_data.specs.Growing.{with_calendar}
use Rattle.mrp_master_data.specs.Table.{horizon, IsOnce, IsRead, IsSourced, Table}
use Rattle.mrp_master_data.proofs.Grow.{read-with_calendar}
use Rattle.mrp_validation.specs.Grammar.{begun_or_fault, day_in_row, field, ranged}
use Rattle.mrp_validation.proofs.KeepingRead.{ranged_is}
use Rattle.mrp_validation.proofs.KeepingSteps.{after, same_Ok}

-- what was read of a day row
pub record DayParts (N : Table) (row : List (List ℕ)) (c : CalendarTerms) : Type 0 where
  pub period : ℕ
  pub read : ranged (field row 1) (latest_begun N.calendar + 1) (horizon N - 1) ≡ Ok period
  pub made : begins N.calendar period (field row 2) ≡ Ok c

begun_ok : (r : Result CalendarTerms CalFault) (c : CalendarTerms) → begun_or_fault r ≡ Ok c → r ≡ Ok c
begun_ok (Ok d) c e = ap (λ (x : CalendarTerms). Ok x) (same_Ok d c e)
begun_ok (Err f) c e = absurd (cc)

pub day_parts : (N : Table) (row : List (List ℕ)) (c : CalendarTerms) → day_in_row N row ≡ Ok c → DayParts N row c
unfolding day_in_row
day_parts N row c is =
    let a = after (ranged (field row 1) (latest_begun N.calendar + 1) (horizon N - 1)) _ c is in
    record { period = a.0; read = a.1; made = begun_ok (begins N.calendar a.0 (field row 2)) c a.2 }

day_calendar : (N : Table) (row : List (List ℕ)) (c : CalendarTerms) → IsCalendar N.calendar → DayParts N row c → IsCalendar c
day_calendar N row c is p =
    let within = ranged_is (field row 1) (latest_begun N.calendar + 1) (horizon N - 1) p.period p.read in
    begun-begins N.calendar p.period (field row 2) c is (omega (arith, within.0)) (omega (arith, within.0, within.1)) p.made

pub day_read : (N : Table) (row : List (List ℕ)) (c : CalendarTerms) → IsRead N → day_in_row N row ≡ Ok c → IsRead (with_calendar N c)
day_read N row c read is =
    let p = day_parts N row c is in
    read-with_calendar N c read (day_calendar N row c read.calendar p) (begun-is N.calendar p.period (field row 2) c p.made).1.periods

-- no row stands twice, whatever the calendar is, and ended or not
pub once_but : (N : Table) (c : CalendarTerms) (ended : Bool) → IsOnce N → IsOnce (record N { calendar = c; ended = ended })
once_but N c ended once = record {
  plants = once.plants;
  items = once.items;
  pairs = once.pairs;
  sources = once.sources;
  bills = once.bills;
  cums = once.cums;
  resets = once.resets;
  policies = once.policies;
  usages = once.usages;
  vendors = once.vendors;
}

-- and pairs come from where they did
pub sourced_but : (N : Table) (c : CalendarTerms) (ended : Bool) → IsSourced N → IsSourced (record N { calendar = c; ended = ended })
sourced_but N c ended sourced = record {
  items = sourced.items;
  order = sourced.order;
  few = sourced.few;
  supplies = sourced.supplies;
  others = sourced.others;
  parents = sourced.parents;
  plants = sourced.plants;
  ships = sourced.ships;
  cums = sourced.cums;
  resets = sourced.resets;
  usages = sourced.usages;
  vendors = sourced.vendors;
  named = sourced.named;
  arrive = sourced.arrive;
}
