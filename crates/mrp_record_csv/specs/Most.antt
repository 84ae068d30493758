-- Records as CSV: how many records may be read of a text.
use Rattle.std.specs.Prelude.{ℕ, ◌<◌, length}
use Rattle.mrp_master_data.specs.Table.{Table}
use Rattle.mrp_net.specs.Lanes.{lane_at, lanes}
use Rattle.mrp_net.specs.Texts.{longest_text}
use Rattle.mrp_qty.specs.declared.limits.TheConstants.{MOST_RECORDS}
use Rattle.mrp_record_csv.specs.declared.most.Most.{Most}
use Rattle.mrp_record_csv.specs.declared.most.Most.TheVariants.{Fixed, OfLane}

-- a fixed number, or as many as a text of the lane can have
abbrev pub most_records : Table → Most → ℕ
most_records N Fixed = MOST_RECORDS
most_records N (OfLane lane) = longest_text N (lane_at N lane.0)

-- the lane, where there is one, is of the network
abbrev pub HasLane : Table → Most → Type 0
HasLane N Fixed = Unit {0}
HasLane N (OfLane lane) = lane.0 < length (lanes N)
