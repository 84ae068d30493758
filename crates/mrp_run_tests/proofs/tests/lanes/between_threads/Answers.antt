use denote.Exit.{no}
use denote.Param.Send.{arg_send, param_send, shr_send}
use Rattle.mrp_crew.proofs.Crossing.{closure_send}
use Rattle.mrp_lane.proofs.send.SendEnd.TheSendSync as send
use Rattle.mrp_net.proofs.Crossing.{network_sync}
use Rattle.mrp_plan.proofs.plan.Plan.TheSendSync as plan
use Rattle.mrp_record.proofs.cursor.OutCursor.TheSendSync as cursor
use Rattle.mrp_run_tests.proofs.tests.lanes.Text.TheSendSync as text
use Rattle.mrp_run_tests.proofs.tests.lanes.between_threads.Goals as goal

-- by its captures one by one: a search through all that a network owns meets its limit
pub join-requires-send-F : goal.join-requires-send-F
join-requires-send-F g c κs within =
    param_send 1 _ (arg_send _ no _ (closure_send _ _ _ _ _ _ _
    (shr_send _ _ _ c.type_bounds.sync-R) (shr_send _ _ _ network_sync) (shr_send _ _ _ plan.the_sync)
    cursor.the_send send.the_send text.the_send))
