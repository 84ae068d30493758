use Rattle.std.proofs.Common.{ℕ, ◌+◌, List, get_or, slice_index, sum_by, refl, sym, ap, subst, ◌∙◌}
use Rattle.std.proofs.lemmas.List.{take_all}
use Rattle.mrp_netting.specs.PlanRows.{PlanRows}
use Rattle.mrp_agent.specs.declared.drafting.PairRows.{PairRows}
use Rattle.mrp_agent.specs.declared.edges.ParentEdge.{ParentEdge}
use Rattle.mrp_agent.specs.Asking.{ParentCanAsk, asked_on, uses_by}
use Rattle.mrp_agent.proofs.Asked.{more_asked, next_within, no_edge, none_asked}
use Rattle.mrp_agent.proofs.drafting.add_parents.Goals as goal

-- what each edge asks by the rows and plans that are given
abbrev asks : PairRows → List PlanRows → ℕ → ParentEdge → ℕ
asks rows plans = asked_on (uses_by rows) plans

pub add_edge-requires-clause-within : goal.add_edge-requires-clause-within
add_edge-requires-clause-within c =
    next_within (asks c.args.rows.now c.args.plans.now) c.args.rows.now.edges.now c.loop-edge.edge-index _ c.args.gross.now c.loop-edge.gross
    c.loop-edge.invariant c.loop-edge-test.true refl c.requires.within

pub loop-edge-init : goal.loop-edge-init
loop-edge-init c = none_asked (asks c.args.rows.now c.args.plans.now) c.args.rows.now.edges.now _

pub add_edge-requires-clause-edge : goal.add_edge-requires-clause-edge
add_edge-requires-clause-edge c =
    let edge = get_or c.args.rows.now.edges.now c.loop-edge.edge-index no_edge in
    subst (λ (n : ℕ). ParentCanAsk c.args.plans.now n edge) (sym c.loop-edge.invariant.size)
    (c.requires.edges c.loop-edge.edge-index no_edge c.loop-edge-test.true)

pub loop-edge-preserved : goal.loop-edge-preserved
loop-edge-preserved c =
    more_asked (asks c.args.rows.now c.args.plans.now) c.args.rows.now.edges.now c.loop-edge.edge-index _ c.args.gross.now c.loop-edge.gross
    c.add_edge.new.gross c.loop-edge.invariant c.loop-edge-test.true refl c.add_edge.ensures.size c.add_edge.ensures.each

pub returns-clause-each : goal.returns-clause-each
returns-clause-each c =
    let all = take_all c.loop-edge.edge-index c.args.rows.now.edges.now c.loop-edge-test.false in
    λ t low.
    c.loop-edge.invariant.each t low
    ∙ ap (λ (edges : List ParentEdge). slice_index c.args.gross.now t + sum_by (asks c.args.rows.now c.args.plans.now t) edges) all

pub returns-clause-size : goal.returns-clause-size
returns-clause-size c = c.loop-edge.invariant.size
