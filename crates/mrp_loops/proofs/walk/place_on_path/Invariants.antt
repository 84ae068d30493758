use Rattle.std.proofs.Common.{◌≡◌, false, take}
use Rattle.mrp_loops.specs.Taking.{is_in}
use Rattle.mrp_loops.proofs.walk.place_on_path.Given as goal

abbrev pub invariant-loop-k : goal.invariant-loop-k
invariant-loop-k l = is_in (take l.k l.path) l.x.0 ≡ false
