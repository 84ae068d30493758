use Rattle.std.proofs.Common.{◌≡◌, ◌==◌, drop}
use Rattle.std.specs.List.{find}
use Rattle.mrp_report.proofs.supply.share_from.Given as goal

-- the edge is among those that follow
abbrev pub invariant-edges : goal.invariant-edges
invariant-edges l = find (λ e. e.low == l.low) l.edges ≡ find (λ e. e.low == l.low) (drop l.edge-index l.edges)
