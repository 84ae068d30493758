use Rattle.std.proofs.Common.{take}
use Rattle.std.specs.List.{flat_map}
use Rattle.mrp_plan.specs.Peg.{edge_term}
use Rattle.mrp_report.specs.Gathering.{Gathers}
use Rattle.mrp_report.specs.PegParts.{term_text}
use Rattle.mrp_report.proofs.pegging.put_edge_pegs.Given as goal

-- the rows of the edges so far are added
abbrev pub invariant-edges : goal.invariant-edges
invariant-edges g l =
    Gathers (g.W.Write.contents l.initial.out) (g.W.Write.contents l.out) l.initial.room l.room
    (flat_map (λ e. term_text l.line.network.now l.line.x.0 l.t (edge_term l.line.network.now l.line.plan.now l.t e)) (take l.edge-index l.edges))
