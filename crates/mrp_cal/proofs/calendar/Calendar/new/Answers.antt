use Rattle.std.proofs.Common.{◌≡◌, inl, inr, List, [], ℕ, refl, arith}
use Rattle.jiff.specs.Types.{Date}
use Rattle.mrp_cal.specs.DateText.{IsDateText}
use Rattle.mrp_cal.proofs.Calendars.{ends_after, ends_by}
use Rattle.mrp_cal.proofs.calendar.Calendar.new.Goals as goal

-- what the bytes of a text spell, the text spells
spelled : (bytes text : List ℕ) (date : Date) → bytes ≡ text → IsDateText bytes date → IsDateText text date
spelled bytes text date e h = rw (← e) h

pub returns-then-days-lt1-clause-fault : goal.returns-then-days-lt1-clause-fault
returns-then-days-lt1-clause-fault c =
    let text = spelled _ _ _ c.as_bytes.ensures.value c.in-Some.ensures in (
      (c.in-Some-day_number.number, (c.in-Some.first, text, c.in-Some-day_number.ensures.number)),
      λ length. elim c.then-days-lt1.either [
        | inl none ↦ omega (arith, none, length.0)
        | inr many ↦ omega (arith, many.1, length.1)
      ],
    )

pub returns-then-number-get-gt-ALL_DAYS-clause-fault :
    goal.returns-then-number-get-gt-ALL_DAYS-clause-fault
returns-then-number-get-gt-ALL_DAYS-clause-fault c =
    let text = spelled _ _ _ c.as_bytes.ensures.value c.in-Some.ensures in
    let number = c.in-Some-day_number.ensures.number in (
      (c.if-days-lt1.false, c.if-days-gt31.false),
      (
        record { first = c.in-Some-day_number.number; days = c.args.days; periods = c.args.horizon; begun = [] },
        record {
          from = record { first = (c.in-Some.first, text, number); days = refl; periods = refl; begun = refl };
          past = ends_after _ _ _ (rw (← c.get.ensures.value) c.if-number-get-gt-ALL_DAYS.true);
        },
      ),
    )

pub invariant_of-result : goal.invariant_of-result
invariant_of-result c = (
  record {
    length = (c.if-days-lt1.false, c.if-days-gt31.false);
    periods = rw (← c.get.ensures.value) (c.get.ensures.some, c.get.ensures.within);
    begun = ends_by _ _ _ (rw (← c.get.ensures.value) c.if-number-get-gt-ALL_DAYS.false);
  },
  omega arith,
)

pub returns-clause-value : goal.returns-clause-value
returns-clause-value c =
    let text = spelled _ _ _ c.as_bytes.ensures.value c.in-Some.ensures in
    record { first = (c.in-Some.first, text, c.in-Some-day_number.ensures.number); days = refl; periods = refl; begun = refl }

pub returns-clause-calendar : goal.returns-clause-calendar
returns-clause-calendar c = (invariant_of-result c).0
