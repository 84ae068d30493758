-- The view of one plant may go to another thread, and threads may share it: its lists own their rows, and the copies
-- of the sums, which only contracts read, own nothing.
use denote.Builtin.{u64}
use denote.Param.Send.{IsSend, IsSync, recorded_send, recorded_sync, sendable, struct_send, struct_sync, view_send, view_sync}
use denote.Struct.Declared.{shape}
use Rattle.std.proofs.Crossing.{Vec-send, Vec-sync, crosses}
use Rattle.mrp_qty.proofs.horizon.Horizon.TheSendSync as horizon
use Rattle.mrp_master_data.proofs.rows.FirmRow.TheSendSync as firm
use Rattle.mrp_master_data.proofs.rows.UsageRow.TheSendSync as usage
use Rattle.mrp_plant_view.proofs.lists.Lists.TheSendSync as lists
use Rattle.mrp_plant_view.proofs.view.IncomingLane.TheSendSync as incoming
use Rattle.mrp_plant_view.proofs.view.OutgoingLane.TheSendSync as outgoing
use Rattle.mrp_plant_view.proofs.view.PlantEdge.TheSendSync as edge
use Rattle.mrp_plant_view.proofs.view.PlantPair.TheSendSync as pair
use Rattle.mrp_plant_view.specs.contracts.frame.PlantFrame as PlantFrame
use Rattle.mrp_plant_view.specs.contracts.frame.PlantFrame.TheInside as inside

fields_send : IsSend inside.the_field.row
fields_send = struct_send (shape inside.the_type) (
  horizon.the_send,
  (
    Vec-send _ pair.the_send,
    (
      Vec-send _ edge.the_send,
      (
        search crosses,
        (
          search crosses,
          (
            lists.the_send _ firm.the_send,
            (lists.the_send u64 (search sendable), (lists.the_send _ usage.the_send, (Vec-send _ incoming.the_send, (Vec-send _ outgoing.the_send, tt)))),
          ),
        ),
      ),
    ),
  ),
)

fields_sync : IsSync inside.the_field.row
fields_sync = struct_sync (shape inside.the_type) (
  horizon.the_sync,
  (
    Vec-sync _ pair.the_sync,
    (
      Vec-sync _ edge.the_sync,
      (
        search crosses,
        (
          search crosses,
          (
            lists.the_sync _ firm.the_sync,
            (lists.the_sync u64 (search sendable), (lists.the_sync _ usage.the_sync, (Vec-sync _ incoming.the_sync, (Vec-sync _ outgoing.the_sync, tt)))),
          ),
        ),
      ),
    ),
  ),
)

pub frame_send : IsSend PlantFrame.the_row
frame_send = view_send inside.the_row _ _ _ _ (recorded_send inside.the_field.row _ _ inside.the_type.to_one fields_send)

pub frame_sync : IsSync PlantFrame.the_row
frame_sync = view_sync inside.the_row _ _ _ _ (recorded_sync inside.the_field.row _ _ inside.the_type.to_one fields_sync)
