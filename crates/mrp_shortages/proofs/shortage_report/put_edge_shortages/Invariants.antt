use Rattle.std.proofs.Common.{◌≡◌, ◌++◌, drop, map}
use Rattle.mrp_csv_out.specs.Writing.{IsBetweenRows, written}
use Rattle.mrp_plan.specs.Peg.{edge_term}
use Rattle.mrp_shortages.specs.ShortageLines.{lacks_text}
use Rattle.mrp_shortages.proofs.shortage_report.put_edge_shortages.Given as goal

-- what is written, and the rows of the edges that are left, are the rows of all
abbrev pub invariant-edges : goal.invariant-edges
invariant-edges l = record {
  between : IsBetweenRows l.rows;
  whole : written l.initial.rows ++ lacks_text l.line l.initial.left (map (edge_term l.line.network.now l.line.plan.now 0) l.edges)
      ≡ written l.rows ++ lacks_text l.line l.left (map (edge_term l.line.network.now l.line.plan.now 0) (drop l.edge-index l.edges));
}
