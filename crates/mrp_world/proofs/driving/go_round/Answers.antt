use Rattle.std.proofs.Common.{length}
use Rattle.mrp_net.specs.Lanes.{lanes}
use Rattle.mrp_world.proofs.Drives as drive
use Rattle.mrp_world.proofs.Looks as look
use Rattle.mrp_world.specs.Moves.{AreSomewhere, AllRests, LanesRest, PlantsRest}
use Rattle.mrp_world.proofs.driving.go_round.Goals as goal

pub returns-then-plan_all : goal.returns-then-plan_all
returns-then-plan_all g c = c.if-plan_all.ensures _

pub move_all-requires : goal.move_all-requires
move_all-requires g c = record {
  shown = drive.still_has (λ p b. AreSomewhere g.P.Plant.shows c.args.network.now p b) (c.if-plan_all.ensures _) c.requires.shown;
}

pub returns : goal.returns
returns g c =
    let shows = g.P.Plant.shows in
    let N = c.args.network.now in
    drive.tried_then shows N _ _ (PlantsRest shows N 0 (length c.args.plants.now)) (LanesRest shows N 0 (length (lanes N))) (AllRests shows N)
    (λ pairs over. look.all_rests shows N c.args.plants.now c.args.boxes.now over pairs) _ _ _ _ _ (c.if-plan_all.ensures c.args.boxes.now)
    c.move_all.ensures
