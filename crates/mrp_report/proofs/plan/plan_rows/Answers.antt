use Rattle.std.proofs.Common.{rules, ◌≡◌, ◌∙◌, length, ap, arith}
use Rattle.std.proofs.lemmas.List.FromFn.{length-map-range_with_len}
use Rattle.mrp_csv_out.specs.Dates.{period_date}
use Rattle.mrp_report.proofs.plan.plan_rows.Goals as goal

pub send_pieces-requires-clause-room : goal.send_pieces-requires-clause-room
send_pieces-requires-clause-room g c =
    let calendar = c.calendar-calendar.result.now in
    let periods : length c.as_slice.result.now ≡ calendar.periods =
    ap length (c.as_slice.ensures.value ∙ c.in_ok-dates.ensures.dates) ∙ length-map-range_with_len (period_date calendar) 0 calendar.periods in
    omega (arith, periods, c.horizon.ensures.value, c.get-periods.ensures.value, c.in_ok-room.ensures.len, c.as_mut_slice.ensures.len)

pub returns-in_err-room-clause-untouched : goal.returns-in_err-room-clause-untouched
returns-in_err-room-clause-untouched g c = search rules

pub returns-clause-text : goal.returns-clause-text
returns-clause-text g c = search rules
