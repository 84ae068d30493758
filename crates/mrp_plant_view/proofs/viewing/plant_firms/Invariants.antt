use Rattle.std.proofs.Common.{◌≡◌, map, take}
use Rattle.mrp_net.specs.FirmOrders.{firms_of}
use Rattle.mrp_plant_view.proofs.viewing.plant_firms.Given as goal

abbrev pub invariant-loop-pair : goal.invariant-loop-pair
invariant-loop-pair l = l.firms ≡ map (λ p. firms_of l.network p.number.0) (take l.pair-index l.pairs)
