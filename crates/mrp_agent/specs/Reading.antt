-- The agent: what the calls that read it say of each history that it shows.
use Rattle.std.specs.Prelude.{◌≡◌, ◌==◌, ℕ, Bool, true, not, List, find, count_by, option_map, option_and_then, Option}
use Rattle.std.specs.Prelude.{Some, Contains}
use Rattle.mrp_master_data.specs.declared.numbers.ItemNo.{ItemNo}
use Rattle.mrp_master_data.specs.declared.numbers.PairNo.{PairNo}
use Rattle.mrp_net.specs.declared.lane.LaneNo.{LaneNo}
use Rattle.mrp_plant_view.specs.declared.view.IncomingItem.{IncomingItem}
use Rattle.mrp_plant_view.specs.declared.view.IncomingLane.{IncomingLane}
use Rattle.mrp_plant_view.specs.declared.view.OutgoingLane.{OutgoingLane}
use Rattle.mrp_plant_view.specs.declared.view.PlantPair.{PlantPair}
use Rattle.mrp_plant_view.specs.Seen.{IsOwnPair, IsView}
use Rattle.mrp_plant_view.specs.View.{PlantRows}
use Rattle.mrp_record.specs.declared.record.Record.{Record}
use Rattle.mrp_record.specs.Entries.{contents, cum, is_closed}
use Rattle.mrp_protocol.specs.LocalPlans.{CanBePlanned}

-- ---- pairs

-- the pair with a number is one of the plant's, and it can be planned
abbrev pub OwnCanBePlanned : PlantRows → (ℕ → List Record) → (ℕ → Bool) → PairNo → Type 0
OwnCanBePlanned V taken planned x = (p : PlantPair) × (Contains V.pairs p) × (p.number ≡ x)
    × CanBePlanned V taken planned p

-- none of the plant's pairs can be
abbrev pub NoneCanBePlanned : PlantRows → (ℕ → List Record) → (ℕ → Bool) → Type 0
NoneCanBePlanned V taken planned = (p : PlantPair) → Contains V.pairs p → CanBePlanned V taken planned p → ⊥

-- the pair with a number is one of the plant's, and it is planned
abbrev pub OwnIsPlanned : PlantRows → (ℕ → Bool) → PairNo → Type 0
OwnIsPlanned V planned x = IsOwnPair V x × (planned x.0 ≡ true)

-- how many of the plant's pairs aren't planned
abbrev pub unplanned_pairs : PlantRows → (ℕ → Bool) → ℕ
unplanned_pairs V planned = count_by (λ p. not (planned p.number.0)) V.pairs

-- ---- figures received

-- the lane of a number that comes in, and the item that a lane carries
abbrev pub incoming_of : PlantRows → LaneNo → Option IncomingLane
incoming_of V lane = find (λ z. z.number.0 == lane.0) V.incoming

abbrev pub carried_by : ItemNo → IncomingLane → Option IncomingItem
carried_by item lane = find (λ i. i.item.0 == item.0) lane.items

-- the cumulative figure received of an item over a lane, closed years added, where the lane comes in and
-- carries the item
abbrev pub received_over : PlantRows → (ℕ → List Record) → LaneNo → ItemNo → Option ℕ
received_over V taken lane item =
    option_map (λ i. cum i.opening item.0 (contents (taken lane.0)))
    (option_and_then (carried_by item) (incoming_of V lane))

-- of an item of a lane that comes in it is the lane's figure from the opening one on
abbrev pub ReceivedFiguresAreCumulative : Type 0
ReceivedFiguresAreCumulative =
    (V : PlantRows) → IsView V → (taken : ℕ → List Record) (lane : IncomingLane) → Contains V.incoming lane
    → (i : IncomingItem) → Contains lane.items i
    → received_over V taken lane.number i.item ≡ Some (cum i.opening i.item.0 (contents (taken lane.number.0)))

-- ---- the end

-- the plant's work is done: each of its pairs is planned, and the closing record of each of its lanes was
-- taken or sent
pub record HasDone (V : PlantRows) (sent taken : ℕ → List Record) (planned : ℕ → Bool) : Type 0 where
  pub pairs : (p : PlantPair) → Contains V.pairs p → planned p.number.0 ≡ true
  pub incoming : (lane : IncomingLane) → Contains V.incoming lane → is_closed (contents (taken lane.number.0)) ≡ true
  pub outgoing : (lane : OutgoingLane) → Contains V.outgoing lane → is_closed (contents (sent lane.number.0)) ≡ true
