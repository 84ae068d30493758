use Rattle.std.proofs.Common.{◌≡◌, ◌*◌, ◌<◌, length, slice_index, slice_index_or, sum, arith, ap, ◌∙◌}
use Rattle.std.proofs.lemmas.List.{take_all}
use Rattle.std.proofs.lemmas.List.Sums.{sum_by_more_le, sum_by_more}
use Rattle.mrp_net.specs.Plan.{rows_at}
use Rattle.mrp_net.specs.Edges.{edge_most, edge_need}
use Rattle.mrp_net.specs.declared.edge.Edge.{Edge}
use Rattle.mrp_plan.proofs.Asked.{no_edge, rows_at_read}
use Rattle.mrp_plan.proofs.explosion.explode_all.Goals as goal

pub explode-requires-clause-within : goal.explode-requires-clause-within
explode-requires-clause-within c =
    let e = slice_index_or c.args.edges.now c.loop-edge.edge-index no_edge in
    let can = c.requires.edges c.loop-edge.edge-index no_edge c.loop-edge-test.true in
    let row : c.release.result.now ≡ (rows_at c.args.plans.now e.demander.0).release =
    c.release.ensures ∙ ap (λ r. r.release) (rows_at_read c.args.plans.now e.demander.0 c.index-plans-edge.result can.demander c.index-plans-edge.is) in
    let term = ap (λ r. edge_most c.args.network.now e * sum r) row in
    omega (
      arith,
      term,
      c.loop-edge.invariant.total,
      c.requires.within,
      sum_by_more_le (λ (f : Edge). edge_most c.args.network.now f * sum (rows_at c.args.plans.now f.demander.0).release) c.args.edges.now
          c.loop-edge.edge-index no_edge c.loop-edge-test.true,
    )

pub loop-edge-preserved : goal.loop-edge-preserved
loop-edge-preserved c =
    let e = slice_index_or c.args.edges.now c.loop-edge.edge-index no_edge in
    let can = c.requires.edges c.loop-edge.edge-index no_edge c.loop-edge-test.true in
    let row : c.release.result.now ≡ (rows_at c.args.plans.now e.demander.0).release =
    c.release.ensures ∙ ap (λ r. r.release) (rows_at_read c.args.plans.now e.demander.0 c.index-plans-edge.result can.demander c.index-plans-edge.is) in
    record {
      size = omega arith;
      each = λ t h.
          omega (
            arith,
            c.explode.ensures.each t (omega arith),
            c.loop-edge.invariant.each t (omega arith),
            ap (λ r. edge_need c.args.network.now e t (slice_index r t)) row,
            sum_by_more (λ (f : Edge). edge_need c.args.network.now f t (slice_index (rows_at c.args.plans.now f.demander.0).release t)) c.args.edges.now
                c.loop-edge.edge-index no_edge c.loop-edge-test.true,
          );
      total =
          omega (
            arith,
            c.explode.ensures.total,
            c.loop-edge.invariant.total,
            ap (λ r. edge_most c.args.network.now e * sum r) row,
            sum_by_more (λ (f : Edge). edge_most c.args.network.now f * sum (rows_at c.args.plans.now f.demander.0).release) c.args.edges.now
                c.loop-edge.edge-index no_edge c.loop-edge-test.true,
          );
    }

pub bounds-plans-edge : goal.bounds-plans-edge
bounds-plans-edge c = (c.requires.edges c.loop-edge.edge-index no_edge c.loop-edge-test.true).demander

pub explode-requires-clause-table : goal.explode-requires-clause-table
explode-requires-clause-table c = c.requires.table

pub explode-requires-clause-edge : goal.explode-requires-clause-edge
explode-requires-clause-edge c = (c.requires.edges c.loop-edge.edge-index no_edge c.loop-edge-test.true).edge

pub returns-clause-each : goal.returns-clause-each
returns-clause-each c = λ t h.
    let here : t < length c.loop-edge.gross = rw c.loop-edge.invariant.size h in
    rw (take_all c.loop-edge.edge-index c.args.edges.now c.loop-edge-test.false) at (c.loop-edge.invariant.each t here)

pub returns-clause-total : goal.returns-clause-total
returns-clause-total c = rw (take_all c.loop-edge.edge-index c.args.edges.now c.loop-edge-test.false) at c.loop-edge.invariant.total

pub returns-clause-size : goal.returns-clause-size
returns-clause-size c = c.loop-edge.invariant.size
