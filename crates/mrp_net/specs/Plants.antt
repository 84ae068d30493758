-- The network: its plants, the pairs of each, and the lanes that each receives and sends.
use Rattle.std.specs.Prelude.{ℕ, List, length, map}
use Rattle.std.specs.List.{range_with_len}
use Rattle.mrp_grouping.specs.Groups.{group}
use Rattle.mrp_grouping.specs.Starts.{IsGrouped}
use Rattle.mrp_master_data.specs.declared.numbers.PairNo.{PairNo}
use Rattle.mrp_master_data.specs.Table.{Table}
use Rattle.mrp_net.specs.declared.lane.LaneNo.{LaneNo}
use Rattle.mrp_net.specs.declared.plants.PlantLists.{PlantLists}
use Rattle.mrp_net.specs.Lanes.{lanes, lane_at}
use Rattle.mrp_net.specs.Sums.{pair_at}

-- the numbers of so many pairs, and of so many lanes
abbrev pub pair_numbers : ℕ → List PairNo
pair_numbers count = map (λ x. record { 0 = x }) (range_with_len 0 count)

abbrev pub lane_numbers : ℕ → List LaneNo
lane_numbers count = map (λ l. record { 0 = l }) (range_with_len 0 count)

-- the plant of a pair, and those that receive and send a lane
abbrev pub plant_of : Table → PairNo → ℕ
plant_of N x = (pair_at N x.0).plant.0

abbrev pub receiver_of : Table → LaneNo → ℕ
receiver_of N l = (lane_at N l.0).receiver.0

abbrev pub sender_of : Table → LaneNo → ℕ
sender_of N l = (lane_at N l.0).sender.0

-- the pairs of a plant, in table order
abbrev pub pairs_of : Table → ℕ → List PairNo
pairs_of N plant = group (plant_of N) plant (pair_numbers (length N.pairs))

-- the lanes that a plant receives, and those that it sends, in lane order
abbrev pub lanes_to : Table → ℕ → List LaneNo
lanes_to N plant = group (receiver_of N) plant (lane_numbers (length (lanes N)))

abbrev pub lanes_from : Table → ℕ → List LaneNo
lanes_from N plant = group (sender_of N) plant (lane_numbers (length (lanes N)))

-- they are kept plant by plant, with where those of each plant begin
abbrev pub ArePairs : Table → List PairNo → List ℕ → Type 0
ArePairs N rows starts = IsGrouped (plant_of N) (length N.plants) (pair_numbers (length N.pairs)) rows starts

abbrev pub AreReceived : Table → List LaneNo → List ℕ → Type 0
AreReceived N rows starts = IsGrouped (receiver_of N) (length N.plants) (lane_numbers (length (lanes N))) rows starts

abbrev pub AreSent : Table → List LaneNo → List ℕ → Type 0
AreSent N rows starts = IsGrouped (sender_of N) (length N.plants) (lane_numbers (length (lanes N))) rows starts

pub record ArePlantLists (N : Table) (p : PlantLists) : Type 0 where
  pub pairs : ArePairs N p.pairs.rows.items p.pairs.starts.items
  pub received : AreReceived N p.received.rows.items p.received.starts.items
  pub sent : AreSent N p.sent.rows.items p.sent.starts.items
