-- Tests of runs, lanes: what a lane carries as the goods of a cursor, place by place, and a
-- cursor that feeds the lane's end.
use Rattle.std.specs.Prelude.{◌≡◌, ℕ, ◌<◌, List, length, map, drop, slice_index_or}
use Rattle.std.specs.List.{range_with_len}
use Rattle.mrp_master_data.specs.declared.numbers.ItemNo.{ItemNo}
use Rattle.mrp_master_data.specs.Table.{Table, horizon}
use Rattle.mrp_net.specs.declared.lane.Lane.{Lane}
use Rattle.mrp_net.specs.declared.lane.LaneKind.{LaneKind}
use Rattle.mrp_net.specs.declared.lane.LaneKind.TheVariants.{Despatch, Schedule}
use Rattle.mrp_net.specs.Lanes.{lanes, lane_at, lane_items, opening, reset, shipments}
use Rattle.mrp_net.specs.Sources.{source_on}
use Rattle.mrp_loops.specs.Sized.{IsSized}
use Rattle.mrp_record.specs.Entries.{Delivery}
use Rattle.mrp_protocol.specs.Loads.{called_in, delivery_of}
use Rattle.mrp_protocol.specs.Goods.{by_period_from}
use Rattle.mrp_record.specs.Cursor.{OutFigures, Goods}
use Rattle.mrp_record.specs.Shows.{ShowsSent}
use Rattle.mrp_lane.specs.Ends.{End}

-- the shipments from a mark on
abbrev pub despatches_from : Table → Lane → ItemNo → ℕ → List Delivery
despatches_from N lane item mark = map delivery_of (drop mark (shipments N lane item))

abbrev pub calls_from : Table → Lane → ItemNo → ℕ → List Delivery
calls_from N lane item mark = by_period_from (called_in N (source_on N lane item)) (horizon N) mark

abbrev pub lines_from : LaneKind → Table → Lane → ItemNo → ℕ → List Delivery
lines_from Despatch N lane item mark = despatches_from N lane item mark
lines_from Schedule N lane item mark = calls_from N lane item mark

abbrev pub item_goods : Table → Lane → ItemNo → Goods
item_goods N lane item = record {
  item = item.0;
  opening = opening N lane item;
  reset = reset N lane item;
  from = lines_from lane.kind N lane item;
}

-- the places are those of the lane's items
abbrev pub lane_item_at : Table → ℕ → ℕ → ItemNo
lane_item_at N l place = slice_index_or (lane_items N (lane_at N l)) place (record { 0 = 0 })

abbrev pub goods : Table → ℕ → ℕ → Goods
goods N l place = item_goods N (lane_at N l) (lane_item_at N l place)

-- the cursor has a place for each item of the lane, and all may be sent
pub record IsOver (N : Table) (l : ℕ) (cursor : OutFigures) : Type 0 where
  pub size : cursor.size ≡ length (lane_items N (lane_at N l))
  pub queue : cursor.queue ≡ range_with_len 0 cursor.size

-- and it shows what the end has sent
pub record Feeds (N : Table) (cursor : OutFigures) (end : End) : Type 0 where
  pub network : end.name.network ≡ N
  pub there : end.name.lane < length (lanes N)
  pub sized : IsSized N
  pub over : IsOver N end.name.lane cursor
  pub shows : ShowsSent (goods N end.name.lane) cursor end.list
