use Rattle.std.proofs.Common.{◌≡◌, ◌+◌, ◌≤◌, slice_index, slice_index_or, take, ap, ◌∙◌, arith}
use Rattle.std.proofs.lemmas.Grind.{common_steps}
use Rattle.std.proofs.lemmas.List.Sums.{sum_by_more_le, sum_by_more}
use Rattle.mrp_qty.specs.declared.quantity.TheConstants.{MOST}
use Rattle.mrp_netting.specs.PlanRows.{PlanRows}
use Rattle.mrp_net.specs.Edges.{edge_need}
use Rattle.mrp_net.specs.Plan.{asked, rows_at}
use Rattle.mrp_net.specs.declared.edge.Edge.{Edge}
use Rattle.mrp_plan.specs.Explosion.{need_by}
use Rattle.mrp_plan.proofs.Asked.{need_by-is, no_edge}
use Rattle.mrp_plan.proofs.fitting.asked_in.Goals as goal
use Rattle.mrp_plan.proofs.fitting.asked_in.Goals.{After-get}

pub need_of-total-requires-clause-bases : goal.need_of-total-requires-clause-bases
need_of-total-requires-clause-bases c = λ i d h. (c.usages.ensures.rows i d h).some

pub need_of-total-requires-clause-shares : goal.need_of-total-requires-clause-shares
need_of-total-requires-clause-shares c = omega (arith, (c.requires.edges c.loop-edge.edge-index no_edge c.loop-edge-test.true).edge.rises)

pub need_of-total-requires-clause-whole : goal.need_of-total-requires-clause-whole
need_of-total-requires-clause-whole c = (c.requires.edges c.loop-edge.edge-index no_edge c.loop-edge-test.true).edge.ends

pub need_of-total-requires-clause-quantity : goal.need_of-total-requires-clause-quantity
need_of-total-requires-clause-quantity c = c.get.ensures.within

-- what the edge's rows ask is what the edge asks
asks : (c : After-get) → need_by c.usages.result.now (slice_index_or c.args.edges.now c.loop-edge.edge-index no_edge) c.args.t c.get.result
    ≡ edge_need c.args.network.now (slice_index_or c.args.edges.now c.loop-edge.edge-index no_edge) c.args.t
    (slice_index (rows_at c.args.plan.now (slice_index_or c.args.edges.now c.loop-edge.edge-index no_edge).demander.0).release c.args.t)
asks c =
    let e = slice_index_or c.args.edges.now c.loop-edge.edge-index no_edge in
    need_by-is c.args.network.now e c.usages.result.now c.args.t c.get.result c.usages.ensures.value
    ∙ ap (edge_need c.args.network.now e c.args.t) (c.get.ensures.value ∙ c.get-released.ensures ∙ ap (λ r. slice_index r c.args.t)
    (c.release.ensures ∙ ap (λ (r : PlanRows). r.release) c.pair.ensures))

-- with it the sum is that of one edge more, and within the bound
more : (c : After-get) → asked c.args.network.now c.args.plan.now (take (c.loop-edge.edge-index + 1) c.args.edges.now) c.args.t
    ≡ c.loop-edge.total + need_by c.usages.result.now (slice_index_or c.args.edges.now c.loop-edge.edge-index no_edge) c.args.t c.get.result
more c =
    omega (
      arith,
      asks c,
      c.loop-edge.invariant,
      sum_by_more (λ (f : Edge). edge_need c.args.network.now f c.args.t (slice_index (rows_at c.args.plan.now f.demander.0).release c.args.t))
          c.args.edges.now c.loop-edge.edge-index no_edge c.loop-edge-test.true,
    )

fits : (c : After-get) → c.loop-edge.total
    + need_by c.usages.result.now (slice_index_or c.args.edges.now c.loop-edge.edge-index no_edge) c.args.t c.get.result ≤ MOST
fits c =
    omega (
      arith,
      asks c,
      c.loop-edge.invariant,
      c.requires.within,
      sum_by_more_le (λ (f : Edge). edge_need c.args.network.now f c.args.t (slice_index (rows_at c.args.plan.now f.demander.0).release c.args.t))
          c.args.edges.now c.loop-edge.edge-index no_edge c.loop-edge-test.true,
    )

pub need_of-total-requires-clause-within : goal.need_of-total-requires-clause-within
need_of-total-requires-clause-within c = omega (arith, fits (goal.at.need_of-total-requires-clause-within c).After-get)

pub overflow_add-total : goal.overflow_add-total
overflow_add-total c = omega (arith, c.need_of-total.ensures, fits (goal.at.overflow_add-total c).After-get)

pub loop-edge-preserved : goal.loop-edge-preserved
loop-edge-preserved c = omega (arith, c.need_of-total.ensures, more (goal.at.loop-edge-preserved c).After-get)

pub returns : goal.returns
returns c = grind (arith, common_steps)
