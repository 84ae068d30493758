use Rattle.std.proofs.Common.{refl}
use Rattle.std.proofs.lemmas.Result.{err_from_is_err_and, on_err_weaker, on_ok_weaker}
use Rattle.mrp_net.specs.Edges.{demanders}
use Rattle.mrp_report.specs.PegParts.{edges_text}
use Rattle.mrp_report.proofs.GatherFacts.{cut-as, cut-longer, gathers-as, gathers-cut, gathers-more}
use Rattle.mrp_report.proofs.PegFacts.{period_parts}
use Rattle.mrp_report.proofs.pegging.put_period_pegs.Goals as goal

pub returns-in_err-put_peg-clause-prefix : goal.returns-in_err-put_peg-clause-prefix
returns-in_err-put_peg-clause-prefix g c =
    let p = err_from_is_err_and c.from_residual.result c.from_residual.ensures.1 in
    let N = c.args.line.now.network.now in
    let plan = c.args.line.now.plan.now in
    let x = c.args.line.now.x.0 in
    rw p.1
    (cut-as _ _ _ _ _ (period_parts N plan x c.args.t c.demand_term-demand.result (demanders N x) c.demand_term-demand.ensures refl)
    (cut-longer _ _ _ _ (edges_text N plan x c.args.t (demanders N x)) c.in_err-put_peg.ensures.prefix))

pub returns-clause-rows : goal.returns-clause-rows
returns-clause-rows g c =
    on_ok_weaker c.put_edge_pegs.result
    (λ more.
    gathers-as _ _ _ _ _ _
    (period_parts c.args.line.now.network.now c.args.line.now.plan.now c.args.line.now.x.0 c.args.t c.demand_term-demand.result c.asking_edges-edges.result.now
    c.demand_term-demand.ensures c.asking_edges-edges.ensures.value)
    (gathers-more _ _ _ _ _ _ _ _ c.in_ok-put_peg.ensures.rows more))
    c.put_edge_pegs.ensures.rows

pub returns-clause-prefix : goal.returns-clause-prefix
returns-clause-prefix g c =
    on_err_weaker c.put_edge_pegs.result
    (λ front.
    cut-as _ _ _ _ _
    (period_parts c.args.line.now.network.now c.args.line.now.plan.now c.args.line.now.x.0 c.args.t c.demand_term-demand.result c.asking_edges-edges.result.now
    c.demand_term-demand.ensures c.asking_edges-edges.ensures.value)
    (gathers-cut _ _ _ _ _ _ _ c.in_ok-put_peg.ensures.rows front))
    c.put_edge_pegs.ensures.prefix
