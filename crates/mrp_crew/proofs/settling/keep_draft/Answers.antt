use Rattle.std.proofs.Common.{[], ◌∷◌, refl}
use Rattle.mrp_master_data.specs.declared.numbers.PairNo.{PairNo}
use Rattle.mrp_agent.specs.State.{AgentState}
use Rattle.mrp_crew.proofs.PlanningLaws.{plans_one}
use Rattle.mrp_crew.proofs.Ready.{can_draft, unplanned}
use Rattle.mrp_crew.proofs.Keeping.{numbers_differ, on_true}
use Rattle.mrp_crew.proofs.settling.keep_draft.Goals as goal

pub settle-requires-clause-can : goal.settle-requires-clause-can
settle-requires-clause-can c =
    can_draft c.args.agent.now c.requires.plannable c.ready_pairs-ready.result.now c.ready_pairs-ready.ensures.numbers c.ready_pairs-ready.ensures.own
    c.ready_pairs-ready.ensures.exact
    c.args.work.now.pair c.requires.ready

pub returns-clause-planned : goal.returns-clause-planned
returns-clause-planned c =
    let A : AgentState = c.args.agent.now in
    let x : PairNo = c.args.work.now.pair in
    let fresh = unplanned A c.requires.plannable c.ready_pairs-ready.result.now c.ready_pairs-ready.ensures.numbers c.ready_pairs-ready.ensures.own
    c.ready_pairs-ready.ensures.exact x c.requires.ready in
    (x ∷ [], plans_one A c.settle.new.self x c.settle.ensures.view c.settle.ensures.left fresh c.settle.ensures.planned, on_true c.args.before _ refl)

pub returns-clause-others : goal.returns-clause-others
returns-clause-others c = λ y listed differ. record {
  ready = c.settle.ensures.others y listed (numbers_differ y c.args.work.now.pair differ);
  drafts = c.settle.ensures.drafts y listed;
}
