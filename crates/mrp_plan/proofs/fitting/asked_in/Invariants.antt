use Rattle.std.proofs.Common.{◌≡◌, take}
use Rattle.mrp_plan.proofs.fitting.asked_in.Given as goal
use Rattle.mrp_net.specs.Plan.{asked}

-- what the edges passed so far ask
abbrev pub invariant-loop-edge : goal.invariant-loop-edge
invariant-loop-edge l = l.total ≡ asked l.network l.plan (take l.edge-index l.edges) l.t
