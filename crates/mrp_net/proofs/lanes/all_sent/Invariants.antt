use Rattle.std.proofs.Common.{◌≡◌, map, take}
use Rattle.mrp_net.specs.SourceRows.{sent}
use Rattle.mrp_net.proofs.lanes.all_sent.Given as goal

abbrev pub invariant-loop-ship : goal.invariant-loop-ship
invariant-loop-ship l = l.all.items ≡ map (sent l.tables) (take l.ship-index l.ships)
