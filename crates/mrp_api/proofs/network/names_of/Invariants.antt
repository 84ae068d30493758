use Rattle.std.proofs.Common.{map, take}
use Rattle.mrp_api.specs.Refusals.{AreCalled}
use Rattle.mrp_api.proofs.network.names_of.Given as goal

-- the pairs before this one have their names
abbrev pub invariant-pairs : goal.invariant-pairs
invariant-pairs l = AreCalled l.network (map (λ x. x.0) (take l.x-index l.pairs)) l.names.items
