use Rattle.std.proofs.Common.{◌≡◌, length, drop, arith}
use Rattle.std.proofs.lemmas.List.{take_at}
use Rattle.mrp_world.specs.Moves.{Acts}
use Rattle.mrp_world.proofs.Looks as look
use Rattle.mrp_world.proofs.acting.act_on.Goals as goal

pub returns : goal.returns
returns g c =
    let plants : length c.act.new.plants ≡ c.args.plants.now.len = omega (arith, c.act.auto.plants, c.as_mut_slice.ensures.len) in
    let boxes : length c.act.new.boxes ≡ c.args.boxes.now.len = omega (arith, c.act.auto.boxes, c.as_mut_slice-2.ensures.len) in
    look.by_names (λ p b q r. Acts g.P.Plant.shows c.args.network.now p b c.args.event c.act.result q r) _ _ _ _ _ _ _ _
    c.as_mut_slice.ensures.value c.as_mut_slice-2.ensures.value
    (take_at c.act.new.plants (drop (length c.act.new.plants) c.args.plants.now.items) c.args.plants.now.len plants)
    (take_at c.act.new.boxes (drop (length c.act.new.boxes) c.args.boxes.now.items) c.args.boxes.now.len boxes) c.act.ensures
