use Rattle.std.proofs.Common.{◌≡◌, map, take}
use Rattle.mrp_net.specs.Routes.{taken}
use Rattle.mrp_net.proofs.lanes.all_taken.Given as goal

abbrev pub invariant-loop-source : goal.invariant-loop-source
invariant-loop-source l = l.all.items ≡ map (taken l.tables) (take l.source-index l.sources)
