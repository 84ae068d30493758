use Rattle.std.proofs.Common.{◌≡◌, length, take}
use Rattle.mrp_net.specs.Incoming.{AreCounted}
use Rattle.mrp_net.proofs.incoming.count_sooner.Given as goal

abbrev pub invariant-loop-row : goal.invariant-loop-row
invariant-loop-row l = AreCounted l.tables.ships (take l.row-index l.row-items) l.pairs.items l.places × (length l.places ≡ length l.tables.pairs)
