use Rattle.std.proofs.Common.{arith}
use Rattle.mrp_world.specs.Moves.{PlantRests}
use Rattle.mrp_world.proofs.Looks as look
use Rattle.mrp_world.proofs.looking.ready_among.Goals as goal

pub returns-in-Some-clause-some : goal.returns-in-Some-clause-some
returns-in-Some-clause-some g c =
    look.ready_may _ _ _ _ _ _ _ (omega (arith, c.loop-p-test.true, c.requires.plants)) c.index-plants-p.is c.in-Some.ensures.can

pub loop-p-preserved : goal.loop-p-preserved
loop-p-preserved g c =
    look.loop_more (λ k. PlantRests g.P.Plant.shows c.args.network.now k c.args.plants.now c.args.boxes.now) _ _ c.loop-p.invariant
    (look.plant_rests _ _ _ _ _ _ (omega (arith, c.loop-p-test.true, c.requires.plants)) c.index-plants-p.is
    (look.none_gives _ _ c.ready.ensures.none c.in_default.is))

pub returns-clause-none : goal.returns-clause-none
returns-clause-none g c p low high = c.loop-p.invariant p low (omega (arith, high, c.loop-p-test.false))
