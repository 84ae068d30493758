-- The network: its lanes, the two ways of records between a plant that takes items and a plant that it takes them from.
use Rattle.std.specs.Prelude.{ℕ, ◌+◌, ◌==◌, ◌&&◌, if◌then◌else◌, Bool, List, [], ◌∷◌, length}
use Rattle.std.specs.Prelude.{map, filter, sum_by, slice_index_or, Option, option_map}
use Rattle.std.specs.List.{find, flat_map, range_with_len}
use Rattle.mrp_master_data.specs.declared.numbers.ItemNo.{ItemNo}
use Rattle.mrp_master_data.specs.declared.numbers.PlantNo.{PlantNo}
use Rattle.mrp_master_data.specs.declared.rows.ResetRow.{ResetRow}
use Rattle.mrp_master_data.specs.declared.rows.SourceRow.{SourceRow}
use Rattle.mrp_master_data.specs.declared.rows.ShipRow.{ShipRow}
use Rattle.mrp_master_data.specs.Table.{Table, pair_no}
use Rattle.mrp_net.specs.declared.lane.Lane.{Lane}
use Rattle.mrp_net.specs.declared.lane.LaneKind.TheVariants.{Despatch, Schedule}
use Rattle.mrp_net.specs.declared.lane.Shipment.{Shipment}
use Rattle.mrp_net.specs.Sums.{pair_at}

-- the sources by which a customer plant takes items from a supplier plant, in table order
abbrev pub taken_over : Table → ℕ → ℕ → List SourceRow
taken_over N customer supplier =
    filter (λ s. ((pair_at N s.pair.0).plant.0 == customer) && (s.plant.0 == supplier)) N.sources

-- the despatch lane and the schedule lane between two plants
abbrev pub both_lanes : PlantNo → PlantNo → List Lane
both_lanes customer supplier =
    record { kind = Despatch; sender = supplier; receiver = customer } ∷
    record { kind = Schedule; sender = customer; receiver = supplier } ∷ []

-- they are there where something is taken
abbrev pub lanes_between : Table → ℕ → ℕ → List Lane
lanes_between N customer supplier =
    if length (taken_over N customer supplier) == 0 then []
    else both_lanes (record { 0 = customer }) (record { 0 = supplier })

-- by customer, then by supplier, in table order of the plants
abbrev pub lanes_of : Table → ℕ → List Lane
lanes_of N customer = flat_map (λ supplier. lanes_between N customer supplier) (range_with_len 0 (length N.plants))

abbrev pub lanes : Table → List Lane
lanes N = flat_map (λ customer. lanes_of N customer) (range_with_len 0 (length N.plants))

-- what a look-up past the lanes reads: a lane of no plants
abbrev pub no_lane : Lane
no_lane = record { kind = Despatch; sender = record { 0 = 0 }; receiver = record { 0 = 0 } }

-- the lane of a number
abbrev pub lane_at : Table → ℕ → Lane
lane_at N l = slice_index_or (lanes N) l no_lane

-- the plant that takes the items, and the plant that it takes them from
abbrev pub customer_of : Lane → ℕ
customer_of lane = elim lane.kind [ Despatch ↦ lane.receiver.0 | Schedule ↦ lane.sender.0 ]

abbrev pub supplier_of : Lane → ℕ
supplier_of lane = elim lane.kind [ Despatch ↦ lane.sender.0 | Schedule ↦ lane.receiver.0 ]

-- the items of a lane, in table order of the customer's pairs
abbrev pub item_of_source : Table → SourceRow → ItemNo
item_of_source N s = (pair_at N s.pair.0).item

abbrev pub lane_items : Table → Lane → List ItemNo
lane_items N lane = map (item_of_source N) (taken_over N (customer_of lane) (supplier_of lane))

-- what the supplier had shipped to the pair before the shipments of the table, and those shipments
abbrev pub figure : Table → ℕ → ℕ → ℕ
figure N x supplier = sum_by (λ c. if (c.pair.0 == x) && (c.from.0 == supplier) then c.figure else 0) N.cums

abbrev pub shipped_from : Table → ℕ → ℕ → ℕ
shipped_from N x supplier = sum_by (λ s. if (s.pair.0 == x) && (s.from.0 == supplier) then s.quantity else 0) N.ships

abbrev pub ships_from : Table → ℕ → ℕ → List ShipRow
ships_from N x supplier = filter (λ s. (s.pair.0 == x) && (s.from.0 == supplier)) N.ships

-- the customer's pair of an item
abbrev pub pair_on : Table → Lane → ItemNo → ℕ
pair_on N lane item = pair_no N (customer_of lane) item.0

-- where an item's figures begin: despatches before the shipments of the table, schedules after them
abbrev pub opening : Table → Lane → ItemNo → ℕ
opening N lane item = elim lane.kind [
  | Despatch ↦ figure N (pair_on N lane item) (supplier_of lane)
  | Schedule ↦ figure N (pair_on N lane item) (supplier_of lane)
      + shipped_from N (pair_on N lane item) (supplier_of lane)
]

-- the shipments of an item on their way, in table order
abbrev pub shipment_of : ShipRow → Shipment
shipment_of s = record { period = s.period; quantity = s.quantity }

abbrev pub shipments : Table → Lane → ItemNo → List Shipment
shipments N lane item = map shipment_of (ships_from N (pair_on N lane item) (supplier_of lane))

-- the period from which the figures between a supplier and a pair start anew, where one of the rows says so
abbrev pub is_reset_of : ℕ → ℕ → ResetRow → Bool
is_reset_of x supplier r = (r.pair.0 == x) && (r.from.0 == supplier)

abbrev pub anew_in : List ResetRow → ℕ → ℕ → Option ℕ
anew_in rows x supplier = option_map (λ r. r.period) (find (is_reset_of x supplier) rows)

-- the period from which the figures of an item start anew, the same on both lanes of the two plants
abbrev pub reset : Table → Lane → ItemNo → Option ℕ
reset N lane item = anew_in N.resets (pair_on N lane item) (supplier_of lane)
