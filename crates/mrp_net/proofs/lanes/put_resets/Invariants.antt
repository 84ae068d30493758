use Rattle.std.proofs.Common.{take}
use Rattle.mrp_net.specs.SourceRows.{AreResetsOf}
use Rattle.mrp_net.proofs.lanes.put_resets.Given as goal

abbrev pub invariant-loop-reset : goal.invariant-loop-reset
invariant-loop-reset l = AreResetsOf l.tables (take l.reset-index l.reset-items) l.resets
