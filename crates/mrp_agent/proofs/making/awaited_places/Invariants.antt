use Rattle.std.proofs.Common.{◌≡◌, map, take}
use Rattle.std.specs.List.{flat_map}
use Rattle.mrp_agent.specs.Making.{place_awaited}
use Rattle.mrp_agent.proofs.making.awaited_places.Given as goal

abbrev pub invariant-loop-lane : goal.invariant-loop-lane
invariant-loop-lane l = l.places.items ≡ flat_map (λ lane. map (place_awaited l.view) lane.items) (take l.lane-index l.lanes)
