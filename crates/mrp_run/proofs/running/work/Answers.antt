use Rattle.std.proofs.Common.{◌≡◌, ℕ, inl, inr, refl, sym, ap, subst, ◌∙◌, ◌+◌, is_err, arith}
use Rattle.std.proofs.lemmas.Bool.{false≢true}
use Rattle.std.proofs.lemmas.Result.{IfOk-from_err}
use Rattle.mrp_crew.specs.Shut.{WasShutToWorker as WasWorkerShut}
use Rattle.mrp_crew.specs.State.{CrewState}
use Rattle.mrp_plant_view.specs.View.{PlantRows}
use Rattle.mrp_run.specs.Faults.{HasTurned, IsOf, IsToldOrOf, WasShut, WasSpent, never_spent}
use Rattle.mrp_run.specs.Steps.{Finishes}
use Rattle.mrp_run.proofs.Done.{has_finished}
use Rattle.mrp_run.proofs.Keeping.{nothing_done, one_after_another, still_works}
use Rattle.mrp_run.proofs.StopRules.{before_turn, handed_on, next_spent, none_spent, not_stopped, of_turn}
use Rattle.mrp_run.proofs.running.work.Goals as goal

pub take_turn-requires-clause-work : goal.take_turn-requires-clause-work
take_turn-requires-clause-work g c κs within =
    let p = c.args.plant.now in
    let q = c.loop-turn.plant in
    still_works p.agent p.sends.items p.takes.items q.agent q.sends.items q.takes.items c.loop-turn.invariant.kept c.requires.work

pub returns-then-done-clause-finishes : goal.returns-then-done-clause-finishes
returns-then-done-clause-finishes g c =
    let p = c.args.plant.now in
    let q = c.loop-turn.plant in
    let r = c.take_turn.new.plant in
    let kept = one_after_another p.agent p.sends.items p.takes.items q.agent q.sends.items q.takes.items r.agent r.sends.items r.takes.items
    c.loop-turn.invariant.kept c.take_turn.ensures.kept in
    record {
      kept = kept;
      finished = has_finished p.agent p.sends.items p.takes.items r.agent r.sends.items r.takes.items kept c.done.result c.if-done.true c.done.ensures.exact
          c.done.ensures.finished;
    }

pub loop-turn-preserved : goal.loop-turn-preserved
loop-turn-preserved g c =
    let p = c.args.plant.now in
    let q = c.loop-turn.plant in
    let r = c.take_turn.new.plant in
    record {
      kept = one_after_another p.agent p.sends.items p.takes.items q.agent q.sends.items q.takes.items r.agent r.sends.items r.takes.items
          c.loop-turn.invariant.kept c.take_turn.ensures.kept;
      crew = c.take_turn.ensures.crew ∙ c.loop-turn.invariant.crew;
      spent = next_spent g.G.Gate.turn_open c.loop-turn.turn c.args.number.0 c.loop-turn.invariant.spent c.in_ok-begin.ensures.opened;
      unfinished = inr (sym c.done.ensures.exact ∙ c.if-done.false);
    }

pub loop-turn-init : goal.loop-turn-init
loop-turn-init g c =
    let p = c.args.plant.now in
    record {
      kept = nothing_done p.agent p.sends.items p.takes.items;
      crew = refl;
      spent = none_spent g.G.Gate.turn_open c.args.number.0;
      unfinished = inl refl;
    }

pub overflow_add-turn : goal.overflow_add-turn
overflow_add-turn g c = omega (arith, c.loop-turn-test.true, c.ranges.turns)

pub begin-requires-clause-turn : goal.begin-requires-clause-turn
begin-requires-clause-turn g c κs within = omega arith

pub returns-in_err-begin-clause-crew : goal.returns-in_err-begin-clause-crew
returns-in_err-begin-clause-crew g c = c.loop-turn.invariant.crew

pub returns-in_err-begin-clause-finishes : goal.returns-in_err-begin-clause-finishes
returns-in_err-begin-clause-finishes g c = IfOk-from_err c.from_residual.result (λ _. Finishes c.args.plant.now c.loop-turn.plant) c.from_residual.ensures.0

-- the gate was open to the turns before this one
pub returns-in_err-begin-clause-fault : goal.returns-in_err-begin-clause-fault
returns-in_err-begin-clause-fault g c =
    let Shut = WasShut g.G.Gate.turn_open g.G.Gate.turn_shut g.G.Gate.worker_shut c.args.crew.now.workers c.args.turns in
    let Spent = WasSpent g.G.Gate.turn_open c.args.turns in
    handed_on (IsToldOrOf g.S.StopRule.holds Shut Spent c.args.number) c.from_residual.result _ c.from_residual.ensures.1
    (before_turn g.S.StopRule.holds (λ plant. g.G.Gate.turn_shut plant (c.loop-turn.turn + 1)) Shut Spent c.args.number _
    (λ shut. inl (c.loop-turn.turn, c.loop-turn-test.true, c.loop-turn.invariant.spent, shut)) c.in_err-begin.ensures.fault)

pub returns-in_err-begin-clause-unfinished : goal.returns-in_err-begin-clause-unfinished
returns-in_err-begin-clause-unfinished g c = λ _. c.loop-turn.invariant.unfinished

pub take_turn-requires-clause-horizon : goal.take_turn-requires-clause-horizon
take_turn-requires-clause-horizon g c κs within =
    ap (λ crew. crew.horizon) c.loop-turn.invariant.crew ∙ c.requires.horizon ∙ sym (ap (λ (V : PlantRows). V.horizon) c.loop-turn.invariant.kept.view)

pub returns-in_err-moved-clause-crew : goal.returns-in_err-moved-clause-crew
returns-in_err-moved-clause-crew g c = c.take_turn.ensures.crew ∙ c.loop-turn.invariant.crew

pub returns-in_err-moved-clause-finishes : goal.returns-in_err-moved-clause-finishes
returns-in_err-moved-clause-finishes g c =
    IfOk-from_err c.from_residual-in_err-moved.result (λ _. Finishes c.args.plant.now c.take_turn.new.plant) c.from_residual-in_err-moved.ensures.0

pub returns-in_err-moved-clause-fault : goal.returns-in_err-moved-clause-fault
returns-in_err-moved-clause-fault g c =
    let Shut = WasShut g.G.Gate.turn_open g.G.Gate.turn_shut g.G.Gate.worker_shut c.args.crew.now.workers c.args.turns in
    let Spent = WasSpent g.G.Gate.turn_open c.args.turns in
    handed_on (IsToldOrOf g.S.StopRule.holds Shut Spent c.args.number) c.from_residual-in_err-moved.result _ c.from_residual-in_err-moved.ensures.1
    (of_turn g.S.StopRule.holds (WasWorkerShut g.G.Gate.worker_shut c.loop-turn.crew.workers) Shut Spent c.args.number _
    (λ shut. inr (subst (λ (crew : CrewState). WasWorkerShut g.G.Gate.worker_shut crew.workers c.args.number.0) c.loop-turn.invariant.crew shut))
    c.in_err-moved.ensures.fault)

pub returns-in_err-moved-clause-unfinished : goal.returns-in_err-moved-clause-unfinished
returns-in_err-moved-clause-unfinished g c = λ stopped.
    absurd (not_stopped (WasWorkerShut g.G.Gate.worker_shut c.loop-turn.crew.workers) c.args.number c.from_residual-in_err-moved.result
    (handed_on (IsOf (WasWorkerShut g.G.Gate.worker_shut c.loop-turn.crew.workers) never_spent c.args.number) c.from_residual-in_err-moved.result _
    c.from_residual-in_err-moved.ensures.1 c.in_err-moved.ensures.fault) stopped)

pub returns-then-done-clause-crew : goal.returns-then-done-clause-crew
returns-then-done-clause-crew g c = c.take_turn.ensures.crew ∙ c.loop-turn.invariant.crew

pub returns-then-done-clause-unfinished : goal.returns-then-done-clause-unfinished
returns-then-done-clause-unfinished g c = λ stopped. absurd (false≢true (ap is_err stopped))

pub returns-clause-crew : goal.returns-clause-crew
returns-clause-crew g c = c.loop-turn.invariant.crew

pub returns-clause-fault : goal.returns-clause-fault
returns-clause-fault g c =
    let all : c.loop-turn.turn ≡ c.args.turns = omega (arith, c.loop-turn-test.false, c.loop-turn.auto.turn-end) in
    inr (subst (λ (turns : ℕ). WasSpent g.G.Gate.turn_open turns c.args.number.0) all c.loop-turn.invariant.spent)

pub returns-clause-unfinished : goal.returns-clause-unfinished
returns-clause-unfinished g c = λ _. c.loop-turn.invariant.unfinished

pub returns-in_err-begin-clause-turned : goal.returns-in_err-begin-clause-turned
returns-in_err-begin-clause-turned g c = IfOk-from_err c.from_residual.result
    (λ _. HasTurned g.G.Gate.turn_open c.args.turns c.args.number.0) c.from_residual.ensures.0

pub returns-in_err-moved-clause-turned : goal.returns-in_err-moved-clause-turned
returns-in_err-moved-clause-turned g c =
    IfOk-from_err c.from_residual-in_err-moved.result (λ _. HasTurned g.G.Gate.turn_open c.args.turns c.args.number.0) c.from_residual-in_err-moved.ensures.0

-- the last turn was the one after those before it
pub returns-then-done-clause-turned : goal.returns-then-done-clause-turned
returns-then-done-clause-turned g c = (
  c.loop-turn.turn + 1,
  omega arith,
  omega (arith, c.loop-turn-test.true),
  next_spent g.G.Gate.turn_open c.loop-turn.turn c.args.number.0 c.loop-turn.invariant.spent c.in_ok-begin.ensures.opened,
)
