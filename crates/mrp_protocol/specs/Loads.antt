-- The protocol's loads: what the lanes of a network carry, for each item of a lane.
use Rattle.std.specs.Prelude.{ℕ, ◌==◌, not, Bool, List, map, filter}
use Rattle.std.specs.List.{range_with_len}
use Rattle.mrp_master_data.specs.declared.numbers.ItemNo.{ItemNo}
use Rattle.mrp_master_data.specs.declared.rows.SourceRow.{SourceRow}
use Rattle.mrp_master_data.specs.Table.{Table, horizon}
use Rattle.mrp_net.specs.declared.lane.Lane.{Lane}
use Rattle.mrp_net.specs.declared.lane.LaneKind.{LaneKind}
use Rattle.mrp_net.specs.declared.lane.LaneKind.TheVariants.{Despatch, Schedule}
use Rattle.mrp_net.specs.declared.lane.Shipment.{Shipment}
use Rattle.mrp_net.specs.Edges.{part, source_edge}
use Rattle.mrp_net.specs.Lanes.{lane_items, opening, shipments, reset}
use Rattle.mrp_net.specs.Plan.{release_at}
use Rattle.mrp_net.specs.Plan.{plan_of}
use Rattle.mrp_net.specs.Sources.{source_on}
use Rattle.mrp_record.specs.Entries.{Delivery}
use Rattle.mrp_record.specs.Text.{Load}

-- a despatch lane delivers what is on its way: each shipment, in table order
abbrev pub delivery_of : Shipment → Delivery
delivery_of s = record { period = s.period; quantity = s.quantity }

abbrev pub despatched : Table → Lane → ItemNo → List Delivery
despatched N lane item = map delivery_of (shipments N lane item)

-- an amount a period, as deliveries in rising period; a period without pieces has none
abbrev pub delivery_in : (ℕ → ℕ) → ℕ → Delivery
delivery_in amount period = record { period = period; quantity = amount period }

abbrev pub has_pieces : Delivery → Bool
has_pieces line = not (line.quantity == 0)

abbrev pub by_period : (ℕ → ℕ) → ℕ → List Delivery
by_period amount periods = filter has_pieces (map (delivery_in amount) (range_with_len 0 periods))

-- a schedule lane calls for the source's part of what the plan releases for its pair in each period
abbrev pub called_in : Table → SourceRow → ℕ → ℕ
called_in N s period = part (source_edge N s) (release_at (plan_of N) s.pair.0 period)

abbrev pub called : Table → Lane → ItemNo → List Delivery
called N lane item = by_period (called_in N (source_on N lane item)) (horizon N)

abbrev pub lines_by : Table → LaneKind → Lane → ItemNo → List Delivery
lines_by N Despatch lane item = despatched N lane item
lines_by N Schedule lane item = called N lane item

-- what a lane carries of one item, and of all
abbrev pub load_of : Table → Lane → ItemNo → Load
load_of N lane item = record {
  item = item.0;
  opening = opening N lane item;
  reset = reset N lane item;
  lines = lines_by N lane.kind lane item;
}

abbrev pub loads : Table → Lane → List Load
loads N lane = map (load_of N lane) (lane_items N lane)
