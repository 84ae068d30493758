use Rattle.std.proofs.Common.{◌≡◌, ◌<◌, ◌≤◌, ◌+◌, ◌-◌, ◌*◌, ◌++◌, ◌∷◌, [], length, sym, ap, subst, ◌∙◌, arith, rules}
use Rattle.std.proofs.lemmas.List.{take_more_set}
use Rattle.mrp_cal.specs.Calendar.{IsCalendar}
use Rattle.mrp_cal.proofs.BegunFacts.{begins-early, begins-late, begins-misspelt, late, room, taken}
use Rattle.mrp_cal.proofs.calendar.Calendar.begin.Goals as goal

pub returns-in_default-clause-fault : goal.returns-in_default-clause-fault
returns-in_default-clause-fault c = begins-misspelt _ _ _ (sym c.day_of.ensures.value ∙ c.in_default.is)

pub returns-then-day-clause-fault : goal.returns-then-day-clause-fault
returns-then-day-clause-fault c =
    begins-early _ _ _ c.in-Some.day (sym c.day_of.ensures.value ∙ c.in-Some.is) (rw (← c.day.ensures.value) c.if-day.true)

pub returns-then-day-get-gt-ALL_DAYS-clause-fault :
    goal.returns-then-day-get-gt-ALL_DAYS-clause-fault
returns-then-day-get-gt-ALL_DAYS-clause-fault c =
    begins-late _ _ _ c.in-Some.day (sym c.day_of.ensures.value ∙ c.in-Some.is) (rw (← c.day.ensures.value) c.if-day.false)
    (late c.args.self.now c.args.period c.in-Some.day c.get.result c.self.inside.days (subst IsCalendar c.self.view_is c.self.invariant.0) c.requires.later
    c.requires.within (c.get.ensures.value ∙ ap (λ x. x.periods) c.self.view_is) (ap (λ x. x.days) c.self.view_is) c.if-day-get-gt-ALL_DAYS.true)

pub bounds-self-inside-self-inside : goal.bounds-self-inside-self-inside
bounds-self-inside-self-inside c =
    let fits : c.self.inside.given ≤ 519 = c.self.invariant.1 in
    let long : length c.self.inside.begun ≡ 519 = first_of (assumption c.self.ranges, search (rules, c.self.ranges)) in
    room c.args.self.now c.args.period c.self.inside.given c.self.inside.begun (subst IsCalendar c.self.view_is c.self.invariant.0) c.requires.later
    c.requires.within (ap (λ x. x.begun) c.self.view_is) (omega (arith, fits, long))

pub returns-clause-value : goal.returns-clause-value
returns-clause-value c =
    let fits : c.self.inside.given ≤ 519 = c.self.invariant.1 in
    let long : length c.self.inside.begun ≡ 519 = first_of (assumption c.self.ranges, search (rules, c.self.ranges)) in
    let less : c.self.inside.given < 519 = room c.args.self.now c.args.period c.self.inside.given c.self.inside.begun
    (subst IsCalendar c.self.view_is c.self.invariant.0) c.requires.later c.requires.within (ap (λ x. x.begun) c.self.view_is) (omega (arith, fits, long)) in
    let t = taken c.args.self.now c.args.period c.in-Some.day c.self.inside.horizon c.self.inside.days c.self.inside.first c.args.date.now _
    (subst IsCalendar c.self.view_is c.self.invariant.0) c.requires.later c.requires.within (sym c.day_of.ensures.value ∙ c.in-Some.is)
    (rw (← c.day.ensures.value) c.if-day.false) (ap (λ x. x.first) c.self.view_is) (ap (λ x. x.days) c.self.view_is) (ap (λ x. x.periods) c.self.view_is)
    (take_more_set c.self.inside.begun c.self.inside.given (record { period = c.args.period; day = c.in-Some.day }) (omega (arith, less, long))
    ∙ ap (λ xs. xs ++ record { period = c.args.period; day = c.in-Some.day } ∷ []) (ap (λ x. x.begun) c.self.view_is))
    (rw (← c.get.ensures.value) c.if-day-get-gt-ALL_DAYS.false) in
    t.0

pub invariant_of-self : goal.invariant_of-self
invariant_of-self c =
    let fits : c.self.inside.given ≤ 519 = c.self.invariant.1 in
    let long : length c.self.inside.begun ≡ 519 = first_of (assumption c.self.ranges, search (rules, c.self.ranges)) in
    let less : c.self.inside.given < 519 = room c.args.self.now c.args.period c.self.inside.given c.self.inside.begun
    (subst IsCalendar c.self.view_is c.self.invariant.0) c.requires.later c.requires.within (ap (λ x. x.begun) c.self.view_is) (omega (arith, fits, long)) in
    let t = taken c.args.self.now c.args.period c.in-Some.day c.self.inside.horizon c.self.inside.days c.self.inside.first c.args.date.now _
    (subst IsCalendar c.self.view_is c.self.invariant.0) c.requires.later c.requires.within (sym c.day_of.ensures.value ∙ c.in-Some.is)
    (rw (← c.day.ensures.value) c.if-day.false) (ap (λ x. x.first) c.self.view_is) (ap (λ x. x.days) c.self.view_is) (ap (λ x. x.periods) c.self.view_is)
    (take_more_set c.self.inside.begun c.self.inside.given (record { period = c.args.period; day = c.in-Some.day }) (omega (arith, less, long))
    ∙ ap (λ xs. xs ++ record { period = c.args.period; day = c.in-Some.day } ∷ []) (ap (λ x. x.begun) c.self.view_is))
    (rw (← c.get.ensures.value) c.if-day-get-gt-ALL_DAYS.false) in
    let more : c.self.inside.given + 1 ≤ 519 = omega (arith, less) in
    (t.1, more)
