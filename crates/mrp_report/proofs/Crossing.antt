-- Reports: what the rows of the plan report are of may be shared by threads, since a
-- network and its plan own their rows.
use denote.Builtin.{u8}
use denote.Param.Send.{IsSync, array_sync, recorded_sync, sendable, shr_slice_sync, shr_sync, struct_sync}
use denote.RattleType.{RattleType}
use denote.Ref.{NamedLft}
use denote.Struct.Declared.{shape}
use denote.Struct.Field.{usize-field}
use denote.Struct.Tuple.{TupleAt, field_at, type_at}
use Rattle.std.proofs.Common.{ℕ, List, [], ◌∷◌}
use Rattle.mrp_net.proofs.Crossing.{network_sync}
use Rattle.mrp_plan.proofs.plan.Plan.TheSendSync as plan
use Rattle.mrp_report.specs.contracts.plan.PlanReport as PlanReport

byte_sync : IsSync u8
byte_sync = search sendable

-- a network, a plan and dates, lent for so long
pub report_sync : (lent : NamedLft) → IsSync (PlanReport.the_row lent)
report_sync lent =
    recorded_sync (PlanReport.the_field lent).row _ _ (PlanReport.the_type lent).to_one
    (struct_sync (shape (PlanReport.the_type lent)) (shr_sync _ _ _ network_sync, (shr_sync _ _ _ plan.the_sync, (shr_slice_sync _ _ _ (array_sync _ _ byte_sync), tt))))

pub size_sync : IsSync usize-field.row
size_sync = search sendable

-- a closure with three captures, as each of them may
module _ (name : List ℕ) (A B C : RattleType) where
  abbrev captures : List RattleType
  captures = A ∷ B ∷ C ∷ []

  pub closure_sync : IsSync A → IsSync B → IsSync C → IsSync (TupleAt name (A ∷ B ∷ C ∷ []))
  closure_sync a b c =
      recorded_sync (field_at name captures).row _ _ (type_at name captures).to_one (struct_sync (shape (type_at name captures)) (a, (b, (c, tt))))
