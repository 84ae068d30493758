-- The run by threads: a plant may go to another thread with what it owns, and so may what its thread brings
-- back, or the thread that made it.
use denote.Param.Send.{IsSend, IsSync, recorded_send, recorded_sync, struct_send, struct_sync}
use denote.RattleType.{RattleType}
use denote.Struct.Declared.{shape}
use denote.Struct.Tuple.{TupleAt, field_at, type_at}
use Rattle.std.proofs.Common.{ℕ, List, [], ◌∷◌}
use Rattle.std.proofs.Crossing.{Vec-send}
use Rattle.std.proofs.result.Result.TheSendSync as result
use Rattle.std.specs.contracts.result.Result as Result
use Rattle.mrp_agent.proofs.Crossing.{agent_send}
use Rattle.mrp_lane.proofs.send.SendEnd.TheSendSync as send
use Rattle.mrp_lane.proofs.take.TakeEnd.TheSendSync as take
use Rattle.mrp_qty.proofs.memory.Memory.TheSendSync as memory
use Rattle.mrp_qty.specs.contracts.memory.Memory as Memory
use Rattle.mrp_run.proofs.fault.RunFault.TheSendSync as fault
use Rattle.mrp_run.specs.contracts.fault.RunFault as RunFault
use Rattle.mrp_run.specs.contracts.plant.Plant as Plant

fields_send : IsSend Plant.the_field.row
fields_send = struct_send (shape Plant.the_type)
    (agent_send, (Vec-send _ send.the_send, (Vec-send _ take.the_send, tt)))

pub plant_send : IsSend Plant.the_row
plant_send = recorded_send Plant.the_field.row _ _ Plant.the_type.to_one fields_send

pub back_send : IsSend (Result.the_row Plant.the_row RunFault.the_row)
back_send = result.the_send Plant.the_row RunFault.the_row plant_send fault.the_send

pub made_send : IsSend (Result.the_row Plant.the_row Memory.the_row)
made_send = result.the_send Plant.the_row Memory.the_row plant_send memory.the_send

-- a closure with eight captures, as each of them may
module _ (name : List ℕ) (A B C D E F G H : RattleType) where
  abbrev captures : List RattleType
  captures = A ∷ B ∷ C ∷ D ∷ E ∷ F ∷ G ∷ H ∷ []

  pub closure_send : IsSend A → IsSend B → IsSend C → IsSend D → IsSend E → IsSend F → IsSend G → IsSend H
      → IsSend (TupleAt name (A ∷ B ∷ C ∷ D ∷ E ∷ F ∷ G ∷ H ∷ []))
  closure_send a b c d e f g h =
      recorded_send (field_at name captures).row _ _ (type_at name captures).to_one
      (struct_send (shape (type_at name captures)) (a, (b, (c, (d, (e, (f, (g, (h, tt)))))))))

-- a closure with one capture, or with two, as each of them may
module _ (name : List ℕ) (A B : RattleType) where
  pub lone_closure_sync : IsSync A → IsSync (TupleAt name (A ∷ []))
  lone_closure_sync a =
      recorded_sync (field_at name (A ∷ [])).row _ _ (type_at name (A ∷ [])).to_one (struct_sync (shape (type_at name (A ∷ []))) (a, tt))

  pub pair_closure_sync : IsSync A → IsSync B → IsSync (TupleAt name (A ∷ B ∷ []))
  pair_closure_sync a b =
      recorded_sync (field_at name (A ∷ B ∷ [])).row _ _ (type_at name (A ∷ B ∷ [])).to_one
      (struct_sync (shape (type_at name (A ∷ B ∷ []))) (a, (b, tt)))
