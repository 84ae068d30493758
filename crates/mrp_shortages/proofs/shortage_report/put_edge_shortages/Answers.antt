use Rattle.std.proofs.Common.{◌≡◌, ◌∙◌, ◌++◌, List, [], ap, sym, arith, drop, map}
use Rattle.std.proofs.lemmas.List.{append-nil, drop_all}
use Rattle.mrp_csv_out.specs.Writing.{written}
use Rattle.mrp_net.specs.declared.edge.Edge.{Edge}
use Rattle.mrp_plan.specs.Peg.{edge_term}
use Rattle.mrp_shortages.specs.ShortageLines.{lacks_text}
use Rattle.mrp_shortages.proofs.LineFacts.{edge_next}
use Rattle.mrp_shortages.proofs.shortage_report.put_edge_shortages.Goals as goal

pub edges-preserved : goal.edges-preserved
edges-preserved c =
    let line = c.args.line.now in
    record {
      between = c.in_ok-put_next.ensures.between;
      whole =
          edge_next line (edge_term line.network.now line.plan.now 0) c.args.edges.now _ c.edges.edge-index c.edges.left c.put_next.new.left c.edge_term-term.result
          _ _ _ c.edges-test.true c.edge_term-term.ensures c.put_next.ensures.left c.edges.invariant.whole c.in_ok-put_next.ensures.row;
    }

pub returns-clause-rows : goal.returns-clause-rows
returns-clause-rows c =
    let line = c.args.line.now in
    let end : drop c.edges.edge-index c.args.edges.now ≡ [] = drop_all c.edges.edge-index c.args.edges.now (omega (arith, c.edges-test.false)) in
    sym (c.edges.invariant.whole
    ∙ ap (λ (es : List Edge). written c.edges.rows ++ lacks_text line c.edges.left (map (edge_term line.network.now line.plan.now 0) es)) end
    ∙ append-nil (written c.edges.rows))
