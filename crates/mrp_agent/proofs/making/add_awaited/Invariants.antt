use Rattle.std.proofs.Common.{◌≡◌, ◌++◌, map, take}
use Rattle.mrp_agent.specs.Making.{place_awaited}
use Rattle.mrp_agent.proofs.making.add_awaited.Given as goal

abbrev pub invariant-loop-item : goal.invariant-loop-item
invariant-loop-item l = l.places.items ≡ l.fn.places.items ++ map (place_awaited l.view) (take l.item-index l.items)
