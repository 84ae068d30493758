use denote.Exit.{no}
use denote.Param.{param}
use denote.Param.Send.{IsSend, sendable, arg_send, param_send, shr_send}
use denote.Struct.Field.{u64-field}
use Rattle.std.specs.contracts.alloc.Global as Global
use Rattle.mrp_master_data.specs.contracts.numbers.PlantNo as PlantNo
use Rattle.mrp_run.proofs.Crossing.{back_send, closure_send, plant_send}
use Rattle.mrp_run.proofs.stop.Stop.TheSendSync as stop
use Rattle.mrp_run.proofs.threads.start.Goals as goal

alloc_send : IsSend Global.the_row
alloc_send = search sendable

number_send : IsSend PlantNo.the_row
number_send = search sendable

u64_send : IsSend u64-field.row
u64_send = search sendable

-- by its captures one by one: a search through all that the plant owns meets its limit
pub spawn_with-started-requires-send-F : goal.spawn_with-started-requires-send-F
spawn_with-started-requires-send-F g c κs within =
    let at = c.type_bounds in
    param_send 2 _ (arg_send _ no _ (closure_send _ _ _ _ _ _ _ _ _
    (shr_send _ _ _ at.sync-R) alloc_send number_send plant_send u64_send (shr_send _ _ _ at.sync-G)
    (shr_send _ _ _ (stop.the_sync (param 3 g.row.S) g.S.StopRule)) u64_send))

pub spawn_with-started-requires-send-T : goal.spawn_with-started-requires-send-T
spawn_with-started-requires-send-T g c κs within = search (back_send, sendable)
