use Rattle.std.proofs.Common.{ap, ◌∙◌, length}
use Rattle.mrp_netting.specs.PlanRows.{PlanRows}
use Rattle.mrp_crew.proofs.Drafting.{drafted_periods}
use Rattle.mrp_crew.proofs.work.draft_pair.Goals as goal

pub returns-clause-worked : goal.returns-clause-worked
returns-clause-worked g c = record {
  room = ap (λ (p : PlanRows). length p.gross) c.draft.ensures ∙ drafted_periods c.args.agent.now c.args.pair;
  plan = λ open_. c.draft.ensures;
}

pub returns-then-not-worker-clause-shut : goal.returns-then-not-worker-clause-shut
returns-then-not-worker-clause-shut g c = λ closed. c.worker.ensures.shut c.if-not-worker.true
