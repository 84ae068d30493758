use Rattle.std.proofs.Common.{◌≡◌, ℕ, length, map, sym, subst, arith, IfErr, IfOk, OnOk}
use Rattle.std.proofs.lemmas.Result.{IfErr-at_err, IfOk-at_ok, IfOk-from_err}
use Rattle.mrp_master_data.specs.Table.{Table}
use Rattle.mrp_net.specs.Plan.{plan_of}
use Rattle.mrp_loops.specs.Sized.{IsSized}
use Rattle.mrp_run.specs.Ends.{AreThrough}
use Rattle.mrp_run.specs.Faults.{AllTurned, WasShut, WasSpent}
use Rattle.mrp_run.specs.Outcome.{AreOfRun}
use Rattle.mrp_run.specs.Worst.{IsFaultIn, IsOfFirst}
use Rattle.mrp_run.proofs.JoinedNetwork.{gate_at_end, gate_at_refusal, ready_work, through_if}
use Rattle.mrp_run.proofs.network.run_to.Goals as goal

pub ready_plants-requires-clause-capacity : goal.ready_plants-requires-clause-capacity
ready_plants-requires-clause-capacity g c κs within = (
  omega (arith, c.capacity.ensures.value, c.capacity.ensures.limits.some_room),
  omega
      (arith, c.capacity.ensures.value, c.capacity.ensures.limits.little_room),
)

pub returns-in_err-ready-clause-outcome : goal.returns-in_err-ready-clause-outcome
returns-in_err-ready-clause-outcome g c =
    let N = c.args.net.now.network in
    IfOk-from_err c.from_residual.result (λ o. (o.plans.items ≡ plan_of N) × AreOfRun N (map g.L.OfEnds.carried o.lanes.items)) c.from_residual.ensures.0

pub returns-in_err-ready-clause-gate : goal.returns-in_err-ready-clause-gate
returns-in_err-ready-clause-gate g c =
    gate_at_refusal g.G.Gate.turn_open g.G.Gate.turn_shut g.G.Gate.worker_shut c.args.settings.workers c.args.turns c.args.net.now.network
    c.from_residual.result _ c.from_residual.ensures.1 tt

pub run_plants-requires-clause-work : goal.run_plants-requires-clause-work
run_plants-requires-clause-work g c κs within = ready_work c.args.net.now.network c.in_ok-ready.ready.items c.in_ok-ready.ensures.ready

pub run_plants-requires-clause-workers : goal.run_plants-requires-clause-workers
run_plants-requires-clause-workers g c κs within = (
  omega (arith, c.workers.ensures.value, c.workers.ensures.limits.some_workers),
  omega
      (arith, c.workers.ensures.value, c.workers.ensures.limits.few_workers),
)

pub run_plants-requires-clause-rule : goal.run_plants-requires-clause-rule
run_plants-requires-clause-rule g c κs within = λ fault met. met

pub returns-in_err-through-clause-outcome : goal.returns-in_err-through-clause-outcome
returns-in_err-through-clause-outcome g c =
    let N = c.args.net.now.network in
    IfOk-from_err c.from_residual-in_err-through.result (λ o. (o.plans.items ≡ plan_of N) × AreOfRun N (map g.L.OfEnds.carried o.lanes.items))
    c.from_residual-in_err-through.ensures.0

-- there are as many plants as the network has
pub returns-in_err-through-clause-gate : goal.returns-in_err-through-clause-gate
returns-in_err-through-clause-gate g c =
    let Shut : ℕ → ℕ → Type 0 = λ workers. WasShut g.G.Gate.turn_open g.G.Gate.turn_shut g.G.Gate.worker_shut workers c.args.turns in
    let Spent = WasSpent g.G.Gate.turn_open c.args.turns in
    let result = c.run_plants.result in
    gate_at_refusal g.G.Gate.turn_open g.G.Gate.turn_shut g.G.Gate.worker_shut c.args.settings.workers c.args.turns c.args.net.now.network
    c.from_residual-in_err-through.result _ c.from_residual-in_err-through.ensures.1
    (IfErr-at_err (IsFaultIn (Shut c.args.settings.workers) Spent c.args.net.now.network) c.in_err-through.was
    (subst (λ (workers : ℕ). IfErr result (IsOfFirst (Shut workers) Spent (length c.args.net.now.network.plants))) c.workers.ensures.value
    (subst (λ (plants : ℕ). IfErr result (IsOfFirst (Shut c.workers.result) Spent plants)) c.in_ok-ready.ensures.ready.all_plants
    c.run_plants.ensures.fault)))

pub outcome_of-requires-clause-sized : goal.outcome_of-requires-clause-sized
outcome_of-requires-clause-sized g c = subst IsSized (sym c.network.ensures.value) c.network.ensures.sized

pub outcome_of-requires-clause-through : goal.outcome_of-requires-clause-through
outcome_of-requires-clause-through g c =
    let N = c.args.net.now.network in
    subst (λ (N : Table). AreThrough N c.in_ok-through.through.items) (sym c.network.ensures.value)
    (IfOk-at_ok (λ plants. AreThrough N plants.items) c.in_ok-through.was
    (through_if N c.in_ok-ready.ready.items c.run_plants.result c.in_ok-ready.ensures.ready c.run_plants.ensures.all c.run_plants.ensures.each))

pub returns-clause-outcome : goal.returns-clause-outcome
returns-clause-outcome g c =
    subst (λ (N : Table). IfOk c.outcome_of.result (λ o. (o.plans.items ≡ plan_of N) × AreOfRun N (map g.L.OfEnds.carried o.lanes.items)))
    c.network.ensures.value c.outcome_of.ensures.outcome

pub returns-clause-gate : goal.returns-clause-gate
returns-clause-gate g c =
    let N = c.args.net.now.network in
    let turned : OnOk c.run_plants.result (AllTurned g.G.Gate.turn_open c.args.turns (length N.plants)) =
    subst (λ (plants : ℕ). OnOk c.run_plants.result (AllTurned g.G.Gate.turn_open c.args.turns plants)) c.in_ok-ready.ensures.ready.all_plants
    c.run_plants.ensures.turned in
    gate_at_end g.G.Gate.turn_open g.G.Gate.turn_shut g.G.Gate.worker_shut c.args.settings.workers c.args.turns N c.outcome_of.result
    (IfOk-at_ok (λ _. AllTurned g.G.Gate.turn_open c.args.turns (length N.plants)) c.in_ok-through.was turned) c.outcome_of.ensures.fault
