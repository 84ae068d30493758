use Rattle.std.proofs.Common.{ℕ, ◌<◌, true, false, length, refl, ap, subst, ◌∙◌, arith}
use Rattle.csv.specs.Records.{fields_of}
use Rattle.mrp_cal.specs.Calendar.{CalendarTerms}
use Rattle.mrp_master_data.specs.Table.{arrivals, IsPair, rises_from}
use Rattle.mrp_master_data.specs.declared.numbers.PairNo.{PairNo}
use Rattle.mrp_master_data.specs.declared.numbers.PlantNo.{PlantNo}
use Rattle.mrp_tables.specs.Spelled.{terms_of_lane}
use Rattle.mrp_tables.proofs.Finding.{from_not, of_found, placed, reset_falls, reset_known, reset_refused, reset_repeated, reset_unknown}
use Rattle.mrp_validation.proofs.KeepingSteps.{handed_on}
use Rattle.mrp_tables.proofs.draft.Draft.reset_of.Goals as goal

pub returns-in_err-lane-clause-exact : goal.returns-in_err-lane-clause-exact
returns-in_err-lane-clause-exact c =
    let periods = c.get.ensures.value ∙ c.horizon-horizon.ensures.value ∙ ap (λ (k : CalendarTerms). k.periods) c.calendar.ensures.value in
    rw (handed_on c.from_residual-in_err-lane.result _ c.from_residual-in_err-lane.ensures.1)
    (reset_unknown c.args.self.now.lists (fields_of c.args.row.now) _
    (terms_of_lane (fields_of c.args.row.now), c.in_ok-period.period) c.lane_named-named.result _ c.in_ok-period.ensures.exact periods
    c.lane_named-named.ensures.exact c.if-has_reset.ensures.exact c.in_err-lane.ensures.exact)

pub returns-in_err-period-clause-exact : goal.returns-in_err-period-clause-exact
returns-in_err-period-clause-exact c =
    let periods = c.get.ensures.value ∙ c.horizon-horizon.ensures.value ∙ ap (λ (k : CalendarTerms). k.periods) c.calendar.ensures.value in
    rw (handed_on c.from_residual.result _ c.from_residual.ensures.1)
    (reset_refused c.args.self.now.lists (fields_of c.args.row.now) _ _ c.in_err-period.ensures.exact periods)

pub returns-in_err-period-clause-row : goal.returns-in_err-period-clause-row
returns-in_err-period-clause-row c = rw (handed_on c.from_residual.result _ c.from_residual.ensures.1) tt

pub returns-in_err-period-clause-fresh : goal.returns-in_err-period-clause-fresh
returns-in_err-period-clause-fresh c = rw (handed_on c.from_residual.result _ c.from_residual.ensures.1) tt

pub returns-in_err-period-clause-source : goal.returns-in_err-period-clause-source
returns-in_err-period-clause-source c = rw (handed_on c.from_residual.result _ c.from_residual.ensures.1) tt

pub returns-then-has_reset-clause-exact : goal.returns-then-has_reset-clause-exact
returns-then-has_reset-clause-exact c =
    let periods = c.get.ensures.value ∙ c.horizon-horizon.ensures.value ∙ ap (λ (k : CalendarTerms). k.periods) c.calendar.ensures.value in
    reset_repeated c.args.self.now.lists (fields_of c.args.row.now) _ (terms_of_lane (fields_of c.args.row.now), c.in_ok-period.period)
    c.lane_named-named.result c.in_ok-period.ensures.exact periods c.lane_named-named.ensures.exact c.if-has_reset.ensures.exact

pub returns-then-has_reset-clause-row : goal.returns-then-has_reset-clause-row
returns-then-has_reset-clause-row c = tt

pub returns-then-has_reset-clause-fresh : goal.returns-then-has_reset-clause-fresh
returns-then-has_reset-clause-fresh c = tt

pub returns-then-has_reset-clause-source : goal.returns-then-has_reset-clause-source
returns-then-has_reset-clause-source c = tt

pub returns-in_err-lane-clause-row : goal.returns-in_err-lane-clause-row
returns-in_err-lane-clause-row c = rw (handed_on c.from_residual-in_err-lane.result _ c.from_residual-in_err-lane.ensures.1) tt

pub returns-in_err-lane-clause-fresh : goal.returns-in_err-lane-clause-fresh
returns-in_err-lane-clause-fresh c = rw (handed_on c.from_residual-in_err-lane.result _ c.from_residual-in_err-lane.ensures.1) tt

pub returns-in_err-lane-clause-source : goal.returns-in_err-lane-clause-source
returns-in_err-lane-clause-source c = rw (handed_on c.from_residual-in_err-lane.result _ c.from_residual-in_err-lane.ensures.1) tt

pub returns-then-falls-clause-row : goal.returns-then-falls-clause-row
returns-then-falls-clause-row c = tt

pub returns-then-falls-clause-fresh : goal.returns-then-falls-clause-fresh
returns-then-falls-clause-fresh c = tt

pub returns-then-falls-clause-source : goal.returns-then-falls-clause-source
returns-then-falls-clause-source c = tt

pub returns-then-falls-clause-exact : goal.returns-then-falls-clause-exact
returns-then-falls-clause-exact c =
    let N = c.args.self.now.lists in
    let periods = c.get.ensures.value ∙ c.horizon-horizon.ensures.value ∙ ap (λ (k : CalendarTerms). k.periods) c.calendar.ensures.value in
    let lane = c.in_ok-lane.lane in
    let rises = from_not (rises_from 0 (arrivals N lane.from.0 lane.pair.0)) true c.if-falls.ensures.exact in
    reset_falls N (fields_of c.args.row.now) _ (terms_of_lane (fields_of c.args.row.now), c.in_ok-period.period) c.lane_named-named.result lane
    c.in_ok-period.ensures.exact periods c.lane_named-named.ensures.exact c.if-has_reset.ensures.exact c.in_ok-lane.ensures.exact rises

pub returns-clause-exact : goal.returns-clause-exact
returns-clause-exact c =
    let N = c.args.self.now.lists in
    let periods = c.get.ensures.value ∙ c.horizon-horizon.ensures.value ∙ ap (λ (k : CalendarTerms). k.periods) c.calendar.ensures.value in
    let lane = c.in_ok-lane.lane in
    let rises = from_not (rises_from 0 (arrivals N lane.from.0 lane.pair.0)) false c.if-falls.ensures.exact in
    reset_known N (fields_of c.args.row.now) _ (terms_of_lane (fields_of c.args.row.now), c.in_ok-period.period) c.lane_named-named.result lane
    c.in_ok-period.ensures.exact periods c.lane_named-named.ensures.exact c.if-has_reset.ensures.exact c.in_ok-lane.ensures.exact rises

pub returns-clause-row : goal.returns-clause-row
returns-clause-row c =
    let N = c.args.self.now.lists in
    let periods = c.get.ensures.value ∙ c.horizon-horizon.ensures.value ∙ ap (λ (k : CalendarTerms). k.periods) c.calendar.ensures.value in
    record {
      from = of_found _ c.in_ok-lane.lane.from (λ (p : PlantNo). p.0 < length N.plants) c.lane_named-named.ensures.named.from c.in_ok-lane.ensures.from;
      pair = of_found _ c.in_ok-lane.lane.pair (λ (x : PairNo). IsPair N x.0) c.lane_named-named.ensures.named.pair c.in_ok-lane.ensures.pair;
      period = subst (λ (n : ℕ). c.in_ok-period.period < n) periods (omega (arith, c.in_ok-period.ensures.within, c.get.ensures.some));
    }

pub returns-clause-source : goal.returns-clause-source
returns-clause-source c =
    rw (placed c.args.self.now.lists c.lane_named-named.result c.in_ok-lane.lane c.lane_named-named.ensures.place c.in_ok-lane.ensures.from
    c.in_ok-lane.ensures.pair c.in_ok-lane.ensures.place) refl
