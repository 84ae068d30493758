use Rattle.std.proofs.Common.{ap, arith, List}
use Rattle.std.specs.List.{flat_map}
use Rattle.std.proofs.lemmas.List.{take_all}
use Rattle.std.proofs.lemmas.Result.{err_from_is_err_and}
use Rattle.mrp_plan.specs.Peg.{edge_term}
use Rattle.mrp_net.specs.declared.edge.Edge.{Edge}
use Rattle.mrp_report.specs.PegParts.{edges_text, term_text}
use Rattle.mrp_report.proofs.GatherFacts.{gathers-as, gathers-next_of, gathers-stop_of}
use Rattle.mrp_report.proofs.pegging.put_edge_pegs.Goals as goal

pub edges-preserved : goal.edges-preserved
edges-preserved g c =
    let N = c.args.line.now.network.now in
    gathers-next_of (λ e. term_text N c.args.line.now.x.0 c.args.t (edge_term N c.args.line.now.plan.now c.args.t e)) c.args.edges.now _ _ _ _ _ _ _ _
    c.edges.edge-index c.edges-test.true (ap (term_text N c.args.line.now.x.0 c.args.t) c.edge_term-term.ensures) c.edges.invariant c.in_ok-put_peg.ensures.rows

pub returns-in_err-put_peg-clause-prefix : goal.returns-in_err-put_peg-clause-prefix
unfolding edges_text
returns-in_err-put_peg-clause-prefix g c =
    let p = err_from_is_err_and c.from_residual.result c.from_residual.ensures.1 in
    let N = c.args.line.now.network.now in
    rw p.1
    (gathers-stop_of (λ e. term_text N c.args.line.now.x.0 c.args.t (edge_term N c.args.line.now.plan.now c.args.t e)) c.args.edges.now _ _ _ _ _ _ _
    c.edges.edge-index c.edges-test.true (ap (term_text N c.args.line.now.x.0 c.args.t) c.edge_term-term.ensures) c.edges.invariant
    c.in_err-put_peg.ensures.prefix)

pub returns-clause-rows : goal.returns-clause-rows
unfolding edges_text
returns-clause-rows g c =
    let N = c.args.line.now.network.now in
    let f = λ (e : Edge). term_text N c.args.line.now.x.0 c.args.t (edge_term N c.args.line.now.plan.now c.args.t e) in
    gathers-as _ _ _ _ _ _ (ap (λ (es : List Edge). flat_map f es) (take_all c.edges.edge-index c.args.edges.now (omega (arith, c.edges-test.false))))
    c.edges.invariant
