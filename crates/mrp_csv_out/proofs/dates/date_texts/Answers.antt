use Rattle.std.proofs.Common.{◌≡◌, ◌∙◌, ap, arith}
use Rattle.mrp_csv_out.specs.DateLists.{first_dates}
use Rattle.mrp_csv_out.proofs.RowFacts.{dates-more}
use Rattle.mrp_csv_out.proofs.dates.date_texts.Goals as goal

pub periods-preserved : goal.periods-preserved
periods-preserved c =
    dates-more c.args.calendar.now c.periods.dates.items c.push.new.self.items c.text.result c.periods.t
    c.periods.invariant c.in_ok-push.ensures.items c.text.ensures.value

pub returns-clause-dates : goal.returns-clause-dates
returns-clause-dates c =
    let at_end : c.periods.t ≡ c.args.calendar.now.periods = omega arith in
    c.periods.invariant ∙ ap (first_dates c.args.calendar.now) at_end
