-- A valid table written out: a day row is what is written of the period whose first day it gives.
use Rattle.std.proofs.Common.{◌≡◌, ℕ, ◌+◌, ◌-◌, List, [], ◌∷◌, ◌++◌, Ok, refl}
use Rattle.std.specs.Prelude.{decimal}
use Rattle.mrp_cal.specs.declared.begun.Begun.{Begun}
use Rattle.mrp_cal.specs.Begins.{latest_begun}
use Rattle.mrp_cal.specs.Calendar.{CalendarTerms}
use Rattle.mrp_cal.specs.Days.{day_text}
use Rattle.mrp_cal.proofs.BegunFacts.{begun-is, day_text-day_spelled}
use Rattle.mrp_master_data.specs.Table.{horizon, Table}
use Rattle.mrp_validation.specs.declared.kind.Kind.TheVariants as kind
use Rattle.mrp_validation.specs.Grammar.{day_in_row, field}
use Rattle.mrp_validation.specs.Written.{day_fields, run_fields}
use Rattle.mrp_validation.proofs.KeepingDay.{day_parts}
use Rattle.mrp_validation.proofs.WrittenFields.{IsOfKind, ranged_text, three_used}

-- the run is written as before, and behind the periods whose first days are given stands the one of the row
pub record DaySaid (row : List (List ℕ)) (c d : CalendarTerms) : Type 0 where
  pub begun : Begun
  pub row_is : row ≡ day_fields begun
  pub begun_are : d.begun ≡ c.begun ++ begun ∷ []
  pub run : run_fields d ≡ run_fields c

same_run : (c d : CalendarTerms) → d.first ≡ c.first → d.days ≡ c.days → d.periods ≡ c.periods → run_fields d ≡ run_fields c
same_run c d first days periods = rw (first, days, periods) refl

pub day_said : (N : Table) (row : List (List ℕ)) (c : CalendarTerms) → IsOfKind row kind.Day → day_in_row N row ≡ Ok c → DaySaid row N.calendar c
day_said N row c k is =
    let p = day_parts N row c is in
    let b = begun-is N.calendar p.period (field row 2) c p.made in
    record {
      begun = record { period = p.period; day = b.0 };
      row_is = three_used row _ (decimal p.period) (day_text b.0) k.size k.word k.free
          (ranged_text (field row 1) (latest_begun N.calendar + 1) (horizon N - 1) p.period p.read) (day_text-day_spelled (field row 2) b.0 b.1.spelled);
      begun_are = b.1.begun;
      run = same_run N.calendar c b.1.first b.1.days b.1.periods;
    }
