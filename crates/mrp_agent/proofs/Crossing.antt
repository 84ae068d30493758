-- The agent may go to another thread, and threads may share one.
use denote.Param.Send.{IsSend, IsSync, recorded_send, recorded_sync, struct_send, struct_sync, view_send, view_sync}
use denote.Struct.Declared.{shape}
use Rattle.mrp_plant_view.proofs.Crossing.{frame_send, frame_sync}
use Rattle.mrp_agent.proofs.parts.Amounts.TheSendSync as amounts
use Rattle.mrp_agent.proofs.parts.Lanes.TheSendSync as lanes
use Rattle.mrp_agent.proofs.parts.Structure.TheSendSync as structure
use Rattle.mrp_agent.proofs.places.LastPlaces.TheSendSync as last
use Rattle.mrp_agent.specs.contracts.agent.Agent as Agent
use Rattle.mrp_agent.specs.contracts.agent.Agent.TheInside as inside

fields_send : IsSend inside.the_field.row
fields_send = struct_send (shape inside.the_type)
    (frame_send, (structure.the_field_send, (lanes.the_field_send, (amounts.the_field_send, (last.the_field_send, tt)))))

fields_sync : IsSync inside.the_field.row
fields_sync = struct_sync (shape inside.the_type)
    (frame_sync, (structure.the_field_sync, (lanes.the_field_sync, (amounts.the_field_sync, (last.the_field_sync, tt)))))

pub agent_send : IsSend Agent.the_row
agent_send = view_send inside.the_row _ _ _ _ (recorded_send inside.the_field.row _ _ inside.the_type.to_one fields_send)

pub agent_sync : IsSync Agent.the_row
agent_sync = view_sync inside.the_row _ _ _ _ (recorded_sync inside.the_field.row _ _ inside.the_type.to_one fields_sync)
