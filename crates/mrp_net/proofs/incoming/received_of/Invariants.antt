use Rattle.std.proofs.Common.{take}
use Rattle.mrp_net.specs.Incoming.{AreRows}
use Rattle.mrp_net.specs.Sums.{received_when_due}
use Rattle.mrp_net.proofs.incoming.received_of.Given as goal

abbrev pub invariant-loop-x : goal.invariant-loop-x
invariant-loop-x l = AreRows l.tables (received_when_due l.tables) (take l.x-index l.pairs) l.rows.items
