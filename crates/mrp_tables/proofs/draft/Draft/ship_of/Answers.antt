use Rattle.std.proofs.Common.{ℕ, ◌<◌, length, ap, subst, ◌∙◌}
use Rattle.csv.specs.Records.{fields_of}
use Rattle.mrp_cal.specs.Calendar.{CalendarTerms}
use Rattle.mrp_master_data.specs.Table.{IsPair}
use Rattle.mrp_master_data.specs.declared.numbers.PairNo.{PairNo}
use Rattle.mrp_master_data.specs.declared.numbers.PlantNo.{PlantNo}
use Rattle.mrp_tables.proofs.Room.{full_of, room_of}
use Rattle.mrp_tables.specs.Spelled.{terms_of_lane}
use Rattle.mrp_tables.proofs.Finding.{of_found, placed, ship_full, ship_known, ship_unknown}
use Rattle.mrp_validation.proofs.KeepingSteps.{handed_on}
use Rattle.mrp_tables.proofs.draft.Draft.ship_of.Goals as goal

pub returns-in_err-lane-clause-exact : goal.returns-in_err-lane-clause-exact
returns-in_err-lane-clause-exact c =
    let periods = c.horizon-horizon.ensures.value ∙ ap (λ (k : CalendarTerms). k.periods) c.calendar.ensures.value in
    rw (handed_on c.from_residual-in_err-lane.result _ c.from_residual-in_err-lane.ensures.1)
    (ship_unknown c.args.self.now.lists (fields_of c.args.row.now) _
    (terms_of_lane (fields_of c.args.row.now), c.in_ok-period.period, c.in_ok-period.quantity) c.lane_named-named.result _ c.in_ok-period.ensures.exact periods
    c.lane_named-named.ensures.exact c.in_err-lane.ensures.exact)

pub returns-in_err-period-clause-row : goal.returns-in_err-period-clause-row
returns-in_err-period-clause-row c = rw (handed_on c.from_residual.result _ c.from_residual.ensures.1) tt

pub returns-in_err-period-clause-place : goal.returns-in_err-period-clause-place
returns-in_err-period-clause-place c = rw (handed_on c.from_residual.result _ c.from_residual.ensures.1) tt

pub returns-in_err-period-clause-room : goal.returns-in_err-period-clause-room
returns-in_err-period-clause-room c = rw (handed_on c.from_residual.result _ c.from_residual.ensures.1) tt

pub returns-in_err-lane-clause-row : goal.returns-in_err-lane-clause-row
returns-in_err-lane-clause-row c = rw (handed_on c.from_residual-in_err-lane.result _ c.from_residual-in_err-lane.ensures.1) tt

pub returns-in_err-lane-clause-place : goal.returns-in_err-lane-clause-place
returns-in_err-lane-clause-place c = rw (handed_on c.from_residual-in_err-lane.result _ c.from_residual-in_err-lane.ensures.1) tt

pub returns-in_err-lane-clause-room : goal.returns-in_err-lane-clause-room
returns-in_err-lane-clause-room c = rw (handed_on c.from_residual-in_err-lane.result _ c.from_residual-in_err-lane.ensures.1) tt

pub returns-then-ships-limits-clause-row : goal.returns-then-ships-limits-clause-row
returns-then-ships-limits-clause-row c = tt

pub returns-then-ships-limits-clause-place : goal.returns-then-ships-limits-clause-place
returns-then-ships-limits-clause-place c = tt

pub returns-then-ships-limits-clause-room : goal.returns-then-ships-limits-clause-room
returns-then-ships-limits-clause-room c = tt

pub returns-then-ships-limits-clause-exact : goal.returns-then-ships-limits-clause-exact
returns-then-ships-limits-clause-exact c =
    let periods = c.horizon-horizon.ensures.value ∙ ap (λ (k : CalendarTerms). k.periods) c.calendar.ensures.value in
    let many = full_of (λ l. l.of_a_kind) c.limits.result c.args.self.now.lists c.ships.result.now c.args.self.now.lists.ships c.limits.ensures.value
    c.ships.ensures.value c.if-ships-limits.true in
    ship_full c.args.self.now.lists (fields_of c.args.row.now) _
    (terms_of_lane (fields_of c.args.row.now), c.in_ok-period.period, c.in_ok-period.quantity) c.lane_named-named.result c.in_ok-lane.lane
    c.in_ok-period.ensures.exact periods c.lane_named-named.ensures.exact c.in_ok-lane.ensures.exact many

pub returns-clause-exact : goal.returns-clause-exact
returns-clause-exact c =
    let periods = c.horizon-horizon.ensures.value ∙ ap (λ (k : CalendarTerms). k.periods) c.calendar.ensures.value in
    let room = room_of (λ l. l.of_a_kind) c.limits.result c.args.self.now.lists c.ships.result.now c.args.self.now.lists.ships c.limits.ensures.value
    c.ships.ensures.value c.if-ships-limits.false in
    rw c.of.ensures
    (ship_known c.args.self.now.lists (fields_of c.args.row.now) _
    (terms_of_lane (fields_of c.args.row.now), c.in_ok-period.period, c.in_ok-period.quantity) c.lane_named-named.result c.in_ok-lane.lane
    c.in_ok-period.ensures.exact periods c.lane_named-named.ensures.exact c.in_ok-lane.ensures.exact room)

pub returns-clause-row : goal.returns-clause-row
returns-clause-row c =
    let N = c.args.self.now.lists in
    let periods = c.horizon-horizon.ensures.value ∙ ap (λ (k : CalendarTerms). k.periods) c.calendar.ensures.value in
    record {
      from = of_found _ c.in_ok-lane.lane.from (λ (p : PlantNo). p.0 < length N.plants) c.lane_named-named.ensures.named.from c.in_ok-lane.ensures.from;
      pair = of_found _ c.in_ok-lane.lane.pair (λ (x : PairNo). IsPair N x.0) c.lane_named-named.ensures.named.pair c.in_ok-lane.ensures.pair;
      period = subst (λ (n : ℕ). c.in_ok-period.period < n) periods c.in_ok-period.ensures.ranges.0;
      some = rw c.of.ensures c.in_ok-period.ensures.ranges.1;
      quantity = rw c.of.ensures c.in_ok-period.ensures.ranges.2;
    }

pub returns-clause-place : goal.returns-clause-place
returns-clause-place c = placed c.args.self.now.lists c.lane_named-named.result c.in_ok-lane.lane c.lane_named-named.ensures.place c.in_ok-lane.ensures.from
    c.in_ok-lane.ensures.pair c.in_ok-lane.ensures.place
