-- The view of one plant that sends a lane: what is called for, of the customer its own part on a
-- schedule lane, of a supplier nothing.
use Rattle.std.proofs.Common.{◌≡◌, Option, None, Some, unwrap_or, ap}
use Rattle.mrp_master_data.specs.declared.numbers.ItemNo.{ItemNo}
use Rattle.mrp_master_data.specs.Table.{Table}
use Rattle.mrp_net.specs.declared.lane.Lane.{Lane}
use Rattle.mrp_net.specs.declared.lane.LaneKind.{LaneKind}
use Rattle.mrp_net.specs.declared.lane.LaneKind.TheVariants.{Despatch, Schedule}
use Rattle.mrp_plant_view.specs.declared.view.Call.{Call}
use Rattle.mrp_plant_view.specs.Loads.{call_of, no_call}
use Rattle.mrp_plant_view.specs.View.{called_on, call_on, outgoing_item}

abbrev call_by : Table → Lane → ItemNo → LaneKind → Option Call
call_by N lane item kind = elim kind as (λ _. Option Call) [ Despatch ↦ None | Schedule ↦ Some (called_on N lane item) ]

pub nothing_called : (N : Table) (lane : Lane) (item : ItemNo) → lane.kind ≡ Despatch → call_on N lane item ≡ None
nothing_called N lane item kind = ap (call_by N lane item) kind

pub call_seen : (N : Table) (lane : Lane) (item : ItemNo) → lane.kind ≡ Schedule → call_of (outgoing_item N lane item) ≡ called_on N lane item
call_seen N lane item kind = ap (λ (k : LaneKind). unwrap_or (call_by N lane item k) no_call) kind
