use Rattle.std.proofs.Common.{◌≡◌, ◌-◌, ℕ, ap, ◌∙◌, arith}
use Rattle.mrp_net.specs.Lanes.{lane_at, opening}
use Rattle.mrp_schedules.specs.declared.line.ScheduleLine.TheVariants.{Opening}
use Rattle.mrp_schedules.specs.Schedule.{in_transit}
use Rattle.mrp_schedules.proofs.Planned as planned
use Rattle.mrp_schedules.proofs.schedule.opening_line.Goals as goal

pub of-requires : goal.of-requires
of-requires c =
    omega (
      arith,
      c.opening-figure.ensures,
      planned.opening_within c.args.network.now c.requires.sized
          (lane_at c.args.network.now c.args.lane.0) c.args.item c.requires.item,
    )

pub of-requires-2 : goal.of-requires-2
of-requires-2 c =
    omega (
      arith,
      c.opening-figure.ensures,
      planned.opening_within c.args.network.now c.requires.sized
          (lane_at c.args.network.now c.args.lane.0) c.args.item c.requires.item,
    )

pub returns : goal.returns
returns c =
    let N = c.args.network.now in
    let lane = lane_at N c.args.lane.0 in
    let item = c.args.item in
    let transit : c.of.result ≡ in_transit N lane item =
    c.of.ensures
    ∙ ap (λ (n : ℕ). n - c.figure-before.result) c.opening-figure.ensures
    ∙ ap (λ (n : ℕ). opening N lane item - n) c.figure-before.ensures
    ∙ planned.transit_is N lane item c.requires.schedule in
    ap (λ (n : ℕ). Opening n c.of-2.result) transit ∙ ap (Opening (in_transit N lane item)) (c.of-2.ensures ∙ c.opening-figure.ensures)
