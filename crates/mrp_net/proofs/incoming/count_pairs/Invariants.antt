use Rattle.std.proofs.Common.{[], take}
use Rattle.mrp_net.specs.Incoming.{AreCounted}
use Rattle.mrp_net.proofs.incoming.count_pairs.Given as goal

abbrev pub invariant-loop-ship : goal.invariant-loop-ship
invariant-loop-ship l = AreCounted (take l.ship-index l.ships) [] l.pairs.items l.places
