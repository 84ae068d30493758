-- The network: how long the text of one of its lanes can be.
use Rattle.std.specs.Prelude.{ℕ, ◌+◌, if◌then◌else◌, length, sum_by, is_some}
use Rattle.mrp_master_data.specs.declared.numbers.ItemNo.{ItemNo}
use Rattle.mrp_master_data.specs.Table.{Table, horizon}
use Rattle.mrp_net.specs.declared.lane.Lane.{Lane}
use Rattle.mrp_net.specs.declared.lane.LaneKind.TheVariants.{Despatch, Schedule}
use Rattle.mrp_net.specs.Lanes.{lane_items, shipments, reset}

-- an item's lines: a despatch lane has one for each shipment on its way, a schedule lane at most one a period
abbrev pub most_lines : Table → Lane → ItemNo → ℕ
most_lines N lane item = elim lane.kind [
  | Despatch ↦ length (shipments N lane item)
  | Schedule ↦ horizon N
]

-- its figures start anew once at most
abbrev pub new_starts : Table → Lane → ItemNo → ℕ
new_starts N lane item = if is_some (reset N lane item) then 1 else 0

-- an item's block: its lines, its new start and its end
abbrev pub longest_block : Table → Lane → ItemNo → ℕ
longest_block N lane item = most_lines N lane item + new_starts N lane item + 1

-- the blocks of the lane's items, and the closing record
abbrev pub longest_text : Table → Lane → ℕ
longest_text N lane = sum_by (longest_block N lane) (lane_items N lane) + 1
