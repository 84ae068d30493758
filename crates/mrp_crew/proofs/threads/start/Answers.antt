use denote.Exit.{no}
use denote.Param.Send.{IsSend, sendable, arg_send, param_send, shr_send}
use denote.Struct.Field.{u64-field, usize-field}
use Rattle.std.proofs.Common.{◌≡◌, Option, Result, Ok, Err, sym, ap, ◌∙◌, subst}
use Rattle.std.specs.Option.{IfSome}
use Rattle.std.specs.Result.{IfOk, result_ok}
use Rattle.mrp_agent.specs.State.{AgentState}
use Rattle.mrp_crew.specs.Rooms.{WorkedFor}
use Rattle.mrp_crew.specs.Started.{IsStarted}
use Rattle.mrp_agent.proofs.Crossing.{agent_sync}
use Rattle.mrp_agent.proofs.room.Room.TheSendSync as room
use Rattle.mrp_master_data.specs.contracts.numbers.PairNo as PairNo
use Rattle.mrp_crew.proofs.Crossing.{closure_send}
use Rattle.mrp_crew.proofs.threads.start.Goals as goal

place_send : IsSend usize-field.row
place_send = search sendable

u64_send : IsSend u64-field.row
u64_send = search sendable

pair_send : IsSend PairNo.the_row
pair_send = search sendable

-- by its captures one by one: a search through all that the agent owns meets its limit
pub spawn_with-started-requires-send-F : goal.spawn_with-started-requires-send-F
spawn_with-started-requires-send-F g c κs within =
    let at = c.type_bounds in
    param_send 2 _ (arg_send _ no _ (closure_send _ _ _ _ _ _ _
    (shr_send _ _ _ agent_sync) place_send (shr_send _ _ _ at.sync-G) u64_send pair_send room.the_send))

-- what holds of the value of an `Ok` holds of what is kept of it
kept : {T E : Type 0} (P Q : T → Type 0) (r : Result T E) (o : Option T) → o ≡ result_ok r → IfOk r P → ((x : T) → P x → Q x) → IfSome o Q
kept P Q (Ok x) o is holds weaker = subst (λ z. IfSome z Q) (sym is) (weaker x holds)
kept P Q (Err e) o is holds weaker = subst (λ z. IfSome z Q) (sym is) tt

pub spawn_with-started-requires-clause-runs : goal.spawn_with-started-requires-clause-runs
spawn_with-started-requires-clause-runs g c κs within = (
  c.requires.can,
  (c.requires.room, (c.requires.number, record { shared = c.type_bounds.sync-G.shared })),
)

pub spawn_with-started-requires-clause-keeps : goal.spawn_with-started-requires-clause-keeps
spawn_with-started-requires-clause-keeps g c κs within = λ r gives. record {
  pair = gives.0;
  worked = subst (λ (A : AgentState). WorkedFor A r) (sym c.of.ensures) gives.1.0;
  shut = gives.1.1;
}

pub returns : goal.returns
returns g c =
    kept _ (IsStarted c.args.agent.now c.args.plant c.args.number c.args.pair) c.spawn_with-started.result c.ok.result c.ok.ensures.value
    c.spawn_with-started.ensures.ok
    (λ h is. record {
      agent = ap (λ p. p.agent.value) is ∙ c.of.ensures;
      plant_is = ap (λ p. p.plant) is;
      number_is = ap (λ p. p.number) is;
      pair_is = ap (λ p. p.pair) is;
    })
