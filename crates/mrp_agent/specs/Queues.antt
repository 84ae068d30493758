-- The agent: where it queues the pairs of its plant once they are planned, and the cursors of lanes on which they are.
use Rattle.std.specs.Prelude.{ℕ, List, [], ◌∷◌, length, slice_index_or, slice_set, Option, None, Some}
use Rattle.std.specs.List.{flat_map, range_with_len}
use Rattle.mrp_master_data.specs.declared.numbers.ItemNo.{ItemNo}
use Rattle.mrp_net.specs.declared.lane.LaneKind.{LaneKind}
use Rattle.mrp_net.specs.declared.lane.LaneKind.TheVariants.{Despatch, Schedule}
use Rattle.mrp_plant_view.specs.declared.view.OutgoingLane.{OutgoingLane}
use Rattle.mrp_plant_view.specs.Loads.{OutgoingLoad, load_at}
use Rattle.mrp_record.specs.Cursor.{OutFigures}
use Rattle.mrp_record.specs.Next.{queued}
use Rattle.mrp_agent.specs.declared.queues.QueuePlace.{QueuePlace}
use Rattle.mrp_agent.specs.After.{place_among}
use Rattle.mrp_agent.specs.State.{no_out, no_outgoing}

-- the queue place of an item of a lane, if the plant has a pair of the item
abbrev pub queue_place : Option ℕ → ℕ → ℕ → List QueuePlace
queue_place None lane item = []
queue_place (Some pair) lane item = record { pair = pair; lane = lane; item = item } ∷ []

-- those of a lane's items, where these are the items of the plant's pairs
abbrev pub item_queues : List ItemNo → ℕ → List OutgoingLoad → List QueuePlace
item_queues pairs lane items =
    flat_map (λ j. queue_place (place_among pairs (load_at items j).item) lane j) (range_with_len 0 (length items))

-- a schedule lane has those of its items, a despatch lane none
abbrev pub lane_queues : LaneKind → List ItemNo → ℕ → List OutgoingLoad → List QueuePlace
lane_queues Despatch pairs lane items = []
lane_queues Schedule pairs lane items = item_queues pairs lane items

abbrev pub lane_queues_at : List ItemNo → List OutgoingLane → ℕ → List QueuePlace
lane_queues_at pairs lanes k =
    lane_queues (slice_index_or lanes k no_outgoing).kind pairs k (slice_index_or lanes k no_outgoing).items

-- those of all lanes
abbrev pub queue_places : List ItemNo → List OutgoingLane → List QueuePlace
queue_places pairs lanes = flat_map (lane_queues_at pairs lanes) (range_with_len 0 (length lanes))

-- the cursors of lanes after an item is queued where it has a queue place
abbrev pub with_queued : List OutFigures → QueuePlace → List OutFigures
with_queued outs q = slice_set outs q.lane (queued (slice_index_or outs q.lane no_out) q.item)
