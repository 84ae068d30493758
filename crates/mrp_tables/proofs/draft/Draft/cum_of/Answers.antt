use Rattle.std.proofs.Common.{◌<◌, length}
use Rattle.csv.specs.Records.{fields_of}
use Rattle.mrp_master_data.specs.Table.{IsPair}
use Rattle.mrp_master_data.specs.declared.numbers.PairNo.{PairNo}
use Rattle.mrp_master_data.specs.declared.numbers.PlantNo.{PlantNo}
use Rattle.mrp_tables.specs.Spelled.{terms_of_lane}
use Rattle.mrp_tables.proofs.Room.{full_of, room_of}
use Rattle.mrp_tables.proofs.Finding.{cum_full, cum_known, cum_repeated, cum_unknown, of_found}
use Rattle.mrp_validation.proofs.KeepingSteps.{handed_on}
use Rattle.mrp_tables.proofs.draft.Draft.cum_of.Goals as goal

pub returns-in_err-lane-clause-exact : goal.returns-in_err-lane-clause-exact
returns-in_err-lane-clause-exact c =
    rw (handed_on c.from_residual-in_err-lane.result _ c.from_residual-in_err-lane.ensures.1)
    (cum_unknown c.args.self.now.lists (fields_of c.args.row.now)
    (terms_of_lane (fields_of c.args.row.now), c.in_ok-figure.figure) c.lane_named-named.result _ c.in_ok-figure.ensures.exact c.lane_named-named.ensures.exact
    c.if-has_cum.ensures.exact
    c.in_err-lane.ensures.exact)

pub returns-then-cums-limits-clause-exact : goal.returns-then-cums-limits-clause-exact
returns-then-cums-limits-clause-exact c =
    let many = full_of (λ l. l.of_a_kind) c.limits.result c.args.self.now.lists c.cums.result.now c.args.self.now.lists.cums c.limits.ensures.value
    c.cums.ensures.value c.if-cums-limits.true in
    cum_full c.args.self.now.lists (fields_of c.args.row.now) (terms_of_lane (fields_of c.args.row.now), c.in_ok-figure.figure) c.lane_named-named.result _
    c.in_ok-figure.ensures.exact c.lane_named-named.ensures.exact c.if-has_cum.ensures.exact
    c.in_ok-lane.ensures.exact many

pub returns-in_err-figure-clause-row : goal.returns-in_err-figure-clause-row
returns-in_err-figure-clause-row c = rw (handed_on c.from_residual.result _ c.from_residual.ensures.1) tt

pub returns-in_err-figure-clause-fresh : goal.returns-in_err-figure-clause-fresh
returns-in_err-figure-clause-fresh c = rw (handed_on c.from_residual.result _ c.from_residual.ensures.1) tt

pub returns-in_err-figure-clause-room : goal.returns-in_err-figure-clause-room
returns-in_err-figure-clause-room c = rw (handed_on c.from_residual.result _ c.from_residual.ensures.1) tt

pub returns-then-has_cum-clause-exact : goal.returns-then-has_cum-clause-exact
returns-then-has_cum-clause-exact c =
    cum_repeated c.args.self.now.lists (fields_of c.args.row.now) (terms_of_lane (fields_of c.args.row.now), c.in_ok-figure.figure) c.lane_named-named.result
    c.in_ok-figure.ensures.exact c.lane_named-named.ensures.exact c.if-has_cum.ensures.exact

pub returns-then-has_cum-clause-row : goal.returns-then-has_cum-clause-row
returns-then-has_cum-clause-row c = tt

pub returns-then-has_cum-clause-fresh : goal.returns-then-has_cum-clause-fresh
returns-then-has_cum-clause-fresh c = tt

pub returns-then-has_cum-clause-room : goal.returns-then-has_cum-clause-room
returns-then-has_cum-clause-room c = tt

pub returns-in_err-lane-clause-row : goal.returns-in_err-lane-clause-row
returns-in_err-lane-clause-row c = rw (handed_on c.from_residual-in_err-lane.result _ c.from_residual-in_err-lane.ensures.1) tt

pub returns-in_err-lane-clause-fresh : goal.returns-in_err-lane-clause-fresh
returns-in_err-lane-clause-fresh c = rw (handed_on c.from_residual-in_err-lane.result _ c.from_residual-in_err-lane.ensures.1) tt

pub returns-in_err-lane-clause-room : goal.returns-in_err-lane-clause-room
returns-in_err-lane-clause-room c = rw (handed_on c.from_residual-in_err-lane.result _ c.from_residual-in_err-lane.ensures.1) tt

pub returns-then-cums-limits-clause-row : goal.returns-then-cums-limits-clause-row
returns-then-cums-limits-clause-row c = tt

pub returns-then-cums-limits-clause-fresh : goal.returns-then-cums-limits-clause-fresh
returns-then-cums-limits-clause-fresh c = tt

pub returns-then-cums-limits-clause-room : goal.returns-then-cums-limits-clause-room
returns-then-cums-limits-clause-room c = tt

pub returns-clause-exact : goal.returns-clause-exact
returns-clause-exact c =
    let room = room_of (λ l. l.of_a_kind) c.limits.result c.args.self.now.lists c.cums.result.now c.args.self.now.lists.cums c.limits.ensures.value
    c.cums.ensures.value c.if-cums-limits.false in
    rw c.of.ensures
    (cum_known c.args.self.now.lists (fields_of c.args.row.now) (terms_of_lane (fields_of c.args.row.now), c.in_ok-figure.figure) c.lane_named-named.result
    c.in_ok-lane.lane c.in_ok-figure.ensures.exact c.lane_named-named.ensures.exact c.if-has_cum.ensures.exact
    c.in_ok-lane.ensures.exact room)

pub returns-clause-row : goal.returns-clause-row
returns-clause-row c =
    let N = c.args.self.now.lists in
    record {
      from = of_found _ c.in_ok-lane.lane.from (λ (p : PlantNo). p.0 < length N.plants) c.lane_named-named.ensures.named.from c.in_ok-lane.ensures.from;
      pair = of_found _ c.in_ok-lane.lane.pair (λ (x : PairNo). IsPair N x.0) c.lane_named-named.ensures.named.pair c.in_ok-lane.ensures.pair;
      figure = rw c.of.ensures c.in_ok-figure.ensures.within;
    }

pub returns-clause-room : goal.returns-clause-room
returns-clause-room c = room_of (λ l. l.of_a_kind) c.limits.result c.args.self.now.lists c.cums.result.now c.args.self.now.lists.cums c.limits.ensures.value
    c.cums.ensures.value c.if-cums-limits.false
