-- The view of one plant: what it has of a lane that the plant sends, its items, each with what is called for of it
-- and its shipments on their way.
use Rattle.std.specs.Prelude.{ℕ, ◌≤◌, List, [], length, map, All, Option, None, unwrap_or, slice_range, slice_index_or}
use Rattle.mrp_master_data.specs.declared.numbers.ItemNo.{ItemNo}
use Rattle.mrp_net.specs.declared.lane.Shipment.{Shipment}
use Rattle.mrp_plant_view.specs.declared.view.Call.{Call}
use Rattle.mrp_plant_view.specs.declared.view.OutgoingItem.{OutgoingItem}
use Rattle.mrp_plant_view.specs.declared.view.OutgoingRow.{OutgoingRow}

-- An item, what was shipped of it before the shipments of the table, what is called for of it, the
-- shipments, and the period from which the figures start anew.
pub record OutgoingLoad : Type 0 where
  pub item : ItemNo
  pub figure : ℕ
  pub call : Option Call
  pub shipments : List Shipment
  pub reset : Option ℕ

-- what an item says, with its shipments, and without them
abbrev pub load : OutgoingItem → List Shipment → OutgoingLoad
load i shipments = record { item = i.item; figure = i.figure; call = i.call; shipments = shipments; reset = i.reset }

abbrev pub bare : OutgoingLoad → OutgoingItem
bare l = record { item = l.item; figure = l.figure; call = l.call; reset = l.reset }

-- what is called for, read as no share of anything where nothing is
abbrev pub no_call : Call
no_call = record { customer = record { 0 = 0 }; low = 0; high = 0 }

abbrev pub call_of : OutgoingLoad → Call
call_of l = unwrap_or l.call no_call

-- what a look-up past the items reads
abbrev pub no_load : OutgoingLoad
no_load = record { item = record { 0 = 0 }; figure = 0; call = None; shipments = []; reset = None }

abbrev pub load_at : List OutgoingLoad → ℕ → OutgoingLoad
load_at loads j = slice_index_or loads j no_load

-- the items, whose shipments stand in one list
abbrev pub row_load : List Shipment → OutgoingRow → OutgoingLoad
row_load shipments r = load r.item (slice_range shipments r.begin r.end)

abbrev pub loads_of : List OutgoingRow → List Shipment → List OutgoingLoad
loads_of rows shipments = map (row_load shipments) rows

-- each item's shipments are a part of that list
pub record IsShipmentRange (shipments : List Shipment) (r : OutgoingRow) : Type 0 where
  pub rises : r.begin ≤ r.end
  pub within : r.end ≤ length shipments

abbrev pub AreParts : List OutgoingRow → List Shipment → Type 0
AreParts rows shipments = All (IsShipmentRange shipments) rows
