use Rattle.std.proofs.Common.{◌≡◌, ◌<◌, ℕ, List, subst, sym, ap, ◌∙◌, Some, ◌-◌, length, arith}
use Rattle.std.specs.List.{slice_get}
use Rattle.mrp_cal.specs.declared.begun.Begun.{Begun}
use Rattle.mrp_cal.specs.Begins.{latest_of}
use Rattle.mrp_cal.specs.Calendar.{IsCalendar}
use Rattle.mrp_cal.proofs.BegunFacts.{latest_last, latest-below}
use Rattle.mrp_cal.proofs.calendar.Calendar.latest_begun.Goals as goal

last_of : (bs given : List Begun) (b : Begun) → bs ≡ given → Some b ≡ slice_get bs (length bs - 1) → b.period ≡ latest_of 0 given
last_of bs given b e is = latest_last bs b (sym is) ∙ ap (latest_of 0) e

pub returns-in-Some-clause-value : goal.returns-in-Some-clause-value
returns-in-Some-clause-value c = last_of c.begun.result.now c.args.self.now.begun c.in-Some.begun.now c.begun.ensures.value c.in-Some.ensures.value

pub returns-in-Some-clause-within : goal.returns-in-Some-clause-within
returns-in-Some-clause-within c =
    omega (arith, returns-in-Some-clause-value c, latest-below c.args.self.now (subst IsCalendar c.self.view_is c.self.invariant.0))

pub returns-in-None-clause-within : goal.returns-in-None-clause-within
returns-in-None-clause-within c =
    let calendar = subst IsCalendar c.self.view_is c.self.invariant.0 in
    calendar.periods.0
