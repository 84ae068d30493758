use Rattle.std.proofs.Common.{refl}
use Rattle.std.proofs.lemmas.List.{get_or_default}
use Rattle.mrp_protocol.specs.declared.event.Event.TheVariants.{Plan}
use Rattle.mrp_world.proofs.Drives as drive
use Rattle.mrp_world.proofs.Looks as look
use Rattle.mrp_world.proofs.driving.plan_one.Goals as goal

pub plan-requires-clause-pair : goal.plan-requires-clause-pair
plan-requires-clause-pair g c =
    look.ready_pair _ _ _ _ _ _ _ c.requires.plant (get_or_default c.args.plants.now c.args.plant _ _ c.requires.plant) c.requires.shown.1 c.in-Some.ensures.own

pub returns-in-Some : goal.returns-in-Some
returns-in-Some g c boxes =
    drive.tried_ready _ _ _ _ _ (Plan c.in-Some.x) _ _ c.requires.shown
    (λ b. look.ready_may _ _ _ _ _ _ _ c.requires.plant (get_or_default c.args.plants.now c.args.plant _ _ c.requires.plant) c.in-Some.ensures.can)
    c.plan.ensures

pub returns-in-None : goal.returns-in-None
returns-in-None g c boxes = record {
  holds = look.plant_rests _ _ _ _ _ _ c.requires.plant (get_or_default c.args.plants.now c.args.plant _ _ c.requires.plant) c.in-None.ensures.none;
  same_plants = refl;
  same_boxes = refl;
}
