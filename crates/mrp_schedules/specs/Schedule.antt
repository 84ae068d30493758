-- Delivery schedules: what the records of a load say, without their numbers, the item's end and the closing. That of an
-- item of a schedule lane is what the lane's records say of it.
use Rattle.std.specs.Prelude.{ℕ, List, ◌∷◌, filter_map, sum_by, Option, Some, None, option_map}
use Rattle.mrp_master_data.specs.declared.numbers.ItemNo.{ItemNo}
use Rattle.mrp_master_data.specs.Table.{Table}
use Rattle.mrp_net.specs.declared.lane.Lane.{Lane}
use Rattle.mrp_net.specs.Lanes.{shipments}
use Rattle.mrp_record.specs.Entries.{Entry, LineOf, EndOf, ResetOf, Closing}
use Rattle.mrp_record.specs.Text.{Load, block}
use Rattle.mrp_protocol.specs.Loads.{load_of}
use Rattle.mrp_schedules.specs.declared.line.ScheduleLine.{ScheduleLine}
use Rattle.mrp_schedules.specs.declared.line.ScheduleLine.TheVariants.{Opening, Call, Reset}

-- a line is a call, a reset stands at the period from which the figures start anew, and an end and a closing are no
-- line
abbrev pub line_of : Option ℕ → Entry → Option ScheduleLine
line_of reset (LineOf item period quantity cumulative) = Some (Call period quantity cumulative)
line_of reset (EndOf item lines cumulative) = None
line_of reset (ResetOf item closed) = option_map (λ period. Reset period closed) reset
line_of reset Closing = None

-- the pieces that the shipments of the table have on their way from the supplier to the customer
abbrev pub in_transit : Table → Lane → ItemNo → ℕ
in_transit N lane item = sum_by (λ s. s.quantity) (shipments N lane item)

-- the schedule of a load: what is in transit and the figure with it, then the calls and the reset in the order of its
-- records
abbrev pub load_schedule : ℕ → Load → List ScheduleLine
load_schedule transit load = Opening transit load.opening ∷ filter_map (line_of load.reset) (block load)

-- that of an item of a lane
abbrev pub schedule_of : Table → Lane → ItemNo → List ScheduleLine
schedule_of N lane item = load_schedule (in_transit N lane item) (load_of N lane item)
