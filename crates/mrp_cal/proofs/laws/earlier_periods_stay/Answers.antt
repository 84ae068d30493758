use Rattle.std.proofs.Common.{◌≡◌, ℕ, ◌+◌, ◌-◌, ◌*◌, ◌∙◌, ap, arith}
use Rattle.mrp_cal.proofs.Since.{day_since-earlier, day_since-more}
use Rattle.mrp_cal.proofs.laws.earlier_periods_stay.Goals as goal

at_once : (day days period : ℕ) → day + (period - period) * days ≡ day
at_once day days period =
    let none : period - period ≡ 0 = omega arith in
    ap (λ n. day + n * days) none ∙ omega arith

pub returns-clause-given : goal.returns-clause-given
returns-clause-given c = λ k period day h later within.
    day_since-more k.days k.periods 0 k.first k.begun (record { period = period; day = day }) period h.begun later (omega arith)
    ∙ at_once day k.days period

pub returns-clause-earlier : goal.returns-clause-earlier
returns-clause-earlier c = λ k period day t lt. day_since-earlier k.days 0 k.first k.begun (record { period = period; day = day }) t lt
