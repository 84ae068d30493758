use Rattle.std.proofs.Common.{◌≡◌, ◌++◌}
use Rattle.std.specs.List.{flat_map, range_with_len}
use Rattle.mrp_plant_view.specs.Loads.{load_at}
use Rattle.mrp_agent.specs.After.{place_among}
use Rattle.mrp_agent.specs.Queues.{queue_place}
use Rattle.mrp_agent.proofs.queues.add_items.Given as goal

abbrev pub invariant-loop-item : goal.invariant-loop-item
invariant-loop-item l = l.places.items ≡ l.fn.places.items ++ flat_map (λ j. queue_place (place_among l.items (load_at l.outgoing j).item) l.lane j)
    (range_with_len 0 l.item)
