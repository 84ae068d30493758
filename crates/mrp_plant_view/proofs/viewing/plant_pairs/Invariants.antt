use Rattle.std.proofs.Common.{◌≡◌, map, take}
use Rattle.mrp_plant_view.specs.View.{plant_pair}
use Rattle.mrp_plant_view.proofs.viewing.plant_pairs.Given as goal

-- the pairs of the numbers before this one
abbrev pub invariant-loop-number : goal.invariant-loop-number
invariant-loop-number l = l.pairs.items ≡ map (λ x. plant_pair l.network x.0) (take l.number-index l.numbers)
