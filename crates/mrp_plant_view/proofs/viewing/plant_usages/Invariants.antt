use Rattle.std.proofs.Common.{◌≡◌, map, take}
use Rattle.mrp_net.specs.Usages.{usages_to}
use Rattle.mrp_plant_view.proofs.viewing.plant_usages.Given as goal

abbrev pub invariant-loop-pair : goal.invariant-loop-pair
invariant-loop-pair l = l.usages ≡ map (λ p. usages_to l.network p.number.0) (take l.pair-index l.pairs)
