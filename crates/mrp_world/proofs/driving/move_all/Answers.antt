use Rattle.std.proofs.Common.{◌≡◌, ℕ, ◌+◌, length, refl, subst, arith}
use Rattle.mrp_net.specs.Lanes.{lanes}
use Rattle.mrp_world.specs.Driving.{Tried}
use Rattle.mrp_world.specs.Moves.{LanesRest, LaneRests, PlantRests}
use Rattle.mrp_world.proofs.Drives as drive
use Rattle.mrp_world.proofs.Looks as look
use Rattle.mrp_world.proofs.Steps as step
use Rattle.mrp_world.proofs.driving.move_all.Goals as goal

pub loop-l-init : goal.loop-l-init
loop-l-init g c = record { holds = λ k low less. absurd (omega (arith, less)); same_plants = refl; same_boxes = refl }

pub move_over_lane-happened-requires-clause-shown : goal.move_over_lane-happened-requires-clause-shown
move_over_lane-happened-requires-clause-shown g c = drive.on_somewhere c.requires.shown (drive.tried_on _ _ _ _ _ _ _ _ c.loop-l.invariant)

pub plan_ready-happened-requires-clause-plant : goal.plan_ready-happened-requires-clause-plant
plan_ready-happened-requires-clause-plant g c =
    omega (
      arith,
      step.receiver_within _ _ c.lane.ensures.plants,
      c.requires.shown.2.shown.all,
      c.loop-l.auto.plants,
      c.move_over_lane-happened.auto.plants,
    )

pub plan_ready-happened-requires-clause-shown : goal.plan_ready-happened-requires-clause-shown
plan_ready-happened-requires-clause-shown g c = (
  c.move_over_lane-happened.new.boxes,
  drive.on_somewhere
      (drive.on_somewhere c.requires.shown (drive.tried_on _ _ _ _ _ _ _ _ c.loop-l.invariant))
      (drive.tried_on _ _ _ _ _ _ _ _ c.move_over_lane-happened.ensures),
)

pub loop-l-preserved : goal.loop-l-preserved
loop-l-preserved g c =
    let shows = g.P.Plant.shows in
    let N = c.args.network.now in
    let so_far = LanesRest shows N 0 c.loop-l.l in
    let with_one = LanesRest shows N 0 (c.loop-l.l + 1) in
    drive.tried_too shows N _ _ with_one (PlantRests shows N c.lane.result.receiver.0) with_one (λ rest plant. rest) _ _ _ _ _ _
    (drive.tried_too shows N _ _ so_far (LaneRests shows N c.loop-l.l) with_one
    (look.loop_more (λ k. LaneRests shows N k c.args.plants.now c.args.boxes.now) 0 c.loop-l.l) _ _ _ _ _ _ c.loop-l.invariant
    c.move_over_lane-happened.ensures) (c.plan_ready-happened.ensures _)

pub returns : goal.returns
returns g c =
    let shows = g.P.Plant.shows in
    let N = c.args.network.now in
    let all : c.loop-l.l ≡ length (lanes N) = omega (arith, c.loop-l.auto.l-end, c.loop-l-test.false, c.lanes-l-end.ensures) in
    subst (λ (n : ℕ). Tried shows N c.args.plants.now c.args.boxes.now (LanesRest shows N 0 n) c.loop-l.happened c.loop-l.plants c.loop-l.boxes) all
    c.loop-l.invariant
