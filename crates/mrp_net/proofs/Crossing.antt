-- The network: threads may share it, since it owns its rows.
use denote.Param.Send.{IsSync, recorded_sync, struct_sync, view_sync}
use denote.Struct.Declared.{shape}
use Rattle.std.proofs.Crossing.{crosses}
use Rattle.mrp_master_data.proofs.tables.Tables.TheSendSync as tables
use Rattle.mrp_net.proofs.build.Amounts.TheSendSync as amounts
use Rattle.mrp_net.proofs.build.Edges.TheSendSync as edges
use Rattle.mrp_net.proofs.lanes.LaneLists.TheSendSync as lanes
use Rattle.mrp_net.proofs.plants.PlantLists.TheSendSync as plants
use Rattle.mrp_net.specs.contracts.kept.Kept as Kept
use Rattle.mrp_net.specs.contracts.kept.Kept.TheInside as kept
use Rattle.mrp_net.specs.contracts.network.Network as Network
use Rattle.mrp_net.specs.contracts.network.Network.TheInside as inside

kept_fields : IsSync kept.the_field.row
kept_fields = struct_sync (shape kept.the_type) (search crosses, (tables.the_sync, tt))

kept_sync : IsSync Kept.the_row
kept_sync = view_sync kept.the_row _ _ _ _ (recorded_sync kept.the_field.row _ _ kept.the_type.to_one kept_fields)

network_fields : IsSync inside.the_field.row
network_fields = struct_sync (shape inside.the_type) (kept_sync, (edges.the_field_sync, (amounts.the_field_sync, (lanes.the_field_sync, (plants.the_field_sync, tt)))))

pub network_sync : IsSync Network.the_row
network_sync = view_sync inside.the_row _ _ _ _ (recorded_sync inside.the_field.row _ _ inside.the_type.to_one network_fields)
