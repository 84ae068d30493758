use Rattle.std.proofs.Common.{◌≡◌, map, take}
use Rattle.mrp_net.specs.Sums.{received_sooner}
use Rattle.mrp_plant_view.proofs.viewing.plant_sooner.Given as goal

abbrev pub invariant-loop-pair : goal.invariant-loop-pair
invariant-loop-pair l = l.sooner ≡ map (λ p. received_sooner l.network p.number.0) (take l.pair-index l.pairs)
