use Rattle.std.proofs.Common.{◌≡◌, map, take}
use Rattle.mrp_agent.proofs.places.ItemPlaces.of_pairs.Given as goal

abbrev pub invariant-loop-pair : goal.invariant-loop-pair
invariant-loop-pair l = l.items ≡ map (λ p. p.item) (take l.pair-index l.pairs)
