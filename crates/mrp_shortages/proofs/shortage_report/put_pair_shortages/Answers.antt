use Rattle.std.proofs.Common.{◌∙◌, ◌++◌, ℕ, List, ap, append_assoc, map}
use Rattle.std.proofs.lemmas.Result.{on_ok_weaker}
use Rattle.mrp_csv_out.specs.Writing.{written}
use Rattle.mrp_plan.specs.Peg.{edge_term}
use Rattle.mrp_shortages.specs.ShortageLines.{lacks_text, line_text}
use Rattle.mrp_shortages.proofs.LineFacts.{pair_parts}
use Rattle.mrp_shortages.proofs.There.{some_period}
use Rattle.mrp_shortages.proofs.shortage_report.put_pair_shortages.Goals as goal

pub demand_term-requires-clause-period : goal.demand_term-requires-clause-period
demand_term-requires-clause-period c = some_period c.args.network.now c.requires.sized.table

pub asking_edges-edges-requires-clause-period : goal.asking_edges-edges-requires-clause-period
asking_edges-edges-requires-clause-period c = some_period c.args.network.now c.requires.sized.table

pub returns-clause-rows : goal.returns-clause-rows
returns-clause-rows c =
    let N = c.args.network.now in
    let line = c.line_of-line.result in
    let left = c.there-left.result in
    let edges = c.asking_edges-edges.result.now in
    let term = c.demand_term.result in
    let before = written c.args.rows.now in
    let first = line_text line left term in
    let behind = lacks_text line c.put_next.new.left (map (edge_term line.network.now line.plan.now 0) edges) in
    on_ok_weaker c.put_edge_shortages.result
    (λ e. e
    ∙ ap (λ (t : List ℕ). t ++ behind) c.in_ok-put_next.ensures.row
    ∙ append_assoc before first behind
    ∙ ap (λ (t : List ℕ). before ++ t)
    (pair_parts N c.args.plan.now c.args.x.0 line left c.put_next.new.left term edges c.line_of-line.ensures c.there-left.ensures c.demand_term.ensures
    c.put_next.ensures.left c.asking_edges-edges.ensures.value))
    c.put_edge_shortages.ensures.rows

-- the line is of the network and the plan
pub put_next-requires-clause-pair : goal.put_next-requires-clause-pair
put_next-requires-clause-pair c = rw (c.line_of-line.ensures.network, c.demand_term.ensures) c.requires.pair

pub put_edge_shortages-requires-clause-size : goal.put_edge_shortages-requires-clause-size
put_edge_shortages-requires-clause-size c = rw (c.line_of-line.ensures.network, c.line_of-line.ensures.plan) c.requires.fits.size

pub put_edge_shortages-requires-clause-edges : goal.put_edge_shortages-requires-clause-edges
put_edge_shortages-requires-clause-edges c = rw (c.line_of-line.ensures.network, c.line_of-line.ensures.plan) c.asking_edges-edges.ensures.edges
