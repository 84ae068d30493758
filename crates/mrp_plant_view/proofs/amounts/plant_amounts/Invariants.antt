use Rattle.std.proofs.Common.{◌≡◌, take}
use Rattle.std.specs.List.{flat_map}
use Rattle.mrp_net.specs.Sums.{row_of}
use Rattle.mrp_plant_view.specs.View.{amount_of}
use Rattle.mrp_plant_view.proofs.amounts.plant_amounts.Given as goal

abbrev pub invariant-loop-pair : goal.invariant-loop-pair
invariant-loop-pair l = l.amounts.items ≡ flat_map (λ p. row_of l.network (amount_of l.which l.network p.number.0)) (take l.pair-index l.pairs)
