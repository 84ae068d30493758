use Rattle.mrp_agent.specs.Asking.{asked_on, uses_by}
use Rattle.mrp_agent.proofs.Asked.{AskedTo}
use Rattle.mrp_agent.proofs.drafting.add_parents.Given as goal

abbrev pub invariant-loop-edge : goal.invariant-loop-edge
invariant-loop-edge l = AskedTo (asked_on (uses_by l.rows) l.plans) l.rows.edges.now l.edge-index l.initial.gross l.gross
