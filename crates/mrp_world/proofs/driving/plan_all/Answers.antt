use Rattle.std.proofs.Common.{◌≡◌, ℕ, ◌+◌, length, refl, subst, arith}
use Rattle.mrp_world.specs.Driving.{Tried}
use Rattle.mrp_world.specs.Moves.{PlantsRest, PlantRests}
use Rattle.mrp_world.proofs.Drives as drive
use Rattle.mrp_world.proofs.Looks as look
use Rattle.mrp_world.proofs.driving.plan_all.Goals as goal

pub loop-p-init : goal.loop-p-init
loop-p-init g c boxes = record { holds = λ k low less. absurd (omega (arith, less)); same_plants = refl; same_boxes = refl }

pub plan_ready-planned-requires-clause-shown : goal.plan_ready-planned-requires-clause-shown
plan_ready-planned-requires-clause-shown g c =
    let some = c.requires.shown in
    (some.0, drive.on_somewhere some.1 (drive.tried_on _ _ _ _ _ _ _ _ (c.loop-p.invariant some.0)))

pub loop-p-preserved : goal.loop-p-preserved
loop-p-preserved g c boxes =
    let shows = g.P.Plant.shows in
    let N = c.args.network.now in
    drive.tried_too shows N _ _ (PlantsRest shows N 0 c.loop-p.p) (PlantRests shows N c.loop-p.p) (PlantsRest shows N 0 (c.loop-p.p + 1))
    (look.loop_more (λ k. PlantRests shows N k c.args.plants.now boxes) 0 c.loop-p.p) _ _ _ _ _ _ (c.loop-p.invariant boxes)
    (c.plan_ready-planned.ensures boxes)

pub returns : goal.returns
returns g c boxes =
    let shows = g.P.Plant.shows in
    let N = c.args.network.now in
    let all : c.loop-p.p ≡ length c.args.plants.now = omega (arith, c.loop-p.auto.p-end, c.loop-p-test.false) in
    subst (λ (n : ℕ). Tried shows N c.args.plants.now boxes (PlantsRest shows N 0 n) c.loop-p.planned c.loop-p.plants boxes) all (c.loop-p.invariant boxes)
