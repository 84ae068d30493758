use Rattle.std.proofs.Common.{◌≡◌, length, drop, refl, sym, arith}
use Rattle.std.proofs.lemmas.List.{take_at}
use Rattle.mrp_world.specs.Driving.{Tried}
use Rattle.mrp_world.specs.Moves.{AllRests, AreSomewhere}
use Rattle.mrp_world.proofs.Looks as look
use Rattle.mrp_world.proofs.driving.go_on.Goals as goal

pub go_round-requires : goal.go_round-requires
go_round-requires g c = record {
  shown = look.by_names (λ p b q r. AreSomewhere g.P.Plant.shows c.args.network.now p b) _ _ _ _ c.args.plants.now.items _ c.args.boxes.now.items _
      (sym c.as_mut_slice.ensures.value) (sym c.as_mut_slice-2.ensures.value) refl refl c.requires.shown;
}

pub returns : goal.returns
returns g c =
    let plants : length c.go_round.new.plants ≡ c.args.plants.now.len = omega (arith, c.go_round.auto.plants, c.as_mut_slice.ensures.len) in
    let boxes : length c.go_round.new.boxes ≡ c.args.boxes.now.len = omega (arith, c.go_round.auto.boxes, c.as_mut_slice-2.ensures.len) in
    look.by_names (λ p b q r. Tried g.P.Plant.shows c.args.network.now p b (AllRests g.P.Plant.shows c.args.network.now) c.go_round.result q r) _ _ _ _ _ _ _ _
    c.as_mut_slice.ensures.value c.as_mut_slice-2.ensures.value
    (take_at c.go_round.new.plants (drop (length c.go_round.new.plants) c.args.plants.now.items) c.args.plants.now.len plants)
    (take_at c.go_round.new.boxes (drop (length c.go_round.new.boxes) c.args.boxes.now.items) c.args.boxes.now.len boxes) c.go_round.ensures
