use Rattle.std.proofs.Common.{◌≡◌, ◌≤◌, ◌*◌, ◌/◌, ℕ, length, ap, sym, subst, ◌∙◌, arith}
use Rattle.std.proofs.Math.Nat.{div-le_self, div-mul-le_self}
use Rattle.std.proofs.lemmas.List.FromFn.{length-map-range_with_len}
use Rattle.mrp_master_data.specs.Table.{Table}
use Rattle.mrp_net.specs.PlanLaws.{Fits}
use Rattle.mrp_csv_out.specs.Dates.{dates_of, period_date}
use Rattle.mrp_report.proofs.rounds.plan_rows_by_threads.Goals as goal

-- there are as many dates as periods, and a piece has so many pairs that its rows have room
pub send_rounds-requires-clause-round : goal.send_rounds-requires-clause-round
send_rounds-requires-clause-round g c κs within =
    let calendar = c.calendar-calendar.result.now in
    let dates = c.as_slice.ensures.value ∙ c.in_ok-dates.ensures.dates in
    let periods : length c.as_slice.result.now ≡ calendar.periods = ap length dates ∙ length-map-range_with_len (period_date calendar) 0 calendar.periods in
    let same : c.get.result ≡ length c.as_slice.result.now = omega (arith, periods, c.horizon.ensures.value, c.get.ensures.value) in
    record {
      table = c.pairs.ensures.table;
      fits = subst (λ (N : Table). Fits N c.args.plan.now) (sym c.network-network.ensures.value) c.requires.fits;
      dates = dates ∙ ap dates_of c.calendar-calendar.ensures;
      within = omega arith;
      few = div-le_self 20000 c.get.result;
      rows = subst (λ (n : ℕ). 20000 / c.get.result * n ≤ 20000) same (div-mul-le_self 20000 c.get.result);
    }
