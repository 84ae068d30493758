use Rattle.std.proofs.Common.{take}
use Rattle.mrp_agent.specs.Making.{AreIdleOuts}
use Rattle.mrp_agent.proofs.making.idle_outs.Given as goal

abbrev pub invariant-loop-lane : goal.invariant-loop-lane
invariant-loop-lane l = AreIdleOuts (take l.lane-index l.lanes) l.outs.items
