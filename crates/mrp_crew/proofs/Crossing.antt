-- A crew's workers: what one of them takes along may go to another thread.
use denote.Param.Send.{IsSend, recorded_send, struct_send}
use denote.RattleType.{RattleType}
use denote.Struct.Declared.{shape}
use denote.Struct.Tuple.{TupleAt, field_at, type_at}
use Rattle.std.proofs.Common.{ℕ, List, [], ◌∷◌}

-- a closure with six captures, as each of them may
module _ (name : List ℕ) (A B C D E F : RattleType) where
  abbrev captures : List RattleType
  captures = A ∷ B ∷ C ∷ D ∷ E ∷ F ∷ []

  pub closure_send : IsSend A → IsSend B → IsSend C → IsSend D → IsSend E → IsSend F → IsSend (TupleAt name (A ∷ B ∷ C ∷ D ∷ E ∷ F ∷ []))
  closure_send a b c d e f =
      recorded_send (field_at name captures).row _ _ (type_at name captures).to_one
      (struct_send (shape (type_at name captures)) (a, (b, (c, (d, (e, (f, tt)))))))
