use Rattle.std.proofs.Common.{◌≡◌, drop, map}
use Rattle.mrp_master_data.specs.Table.{horizon}
use Rattle.mrp_reach.specs.Reach.{least}
use Rattle.mrp_reach.proofs.Demanded.{released}
use Rattle.mrp_reach.proofs.whole.whole_of.Given as goal

-- the least so far and the edges that are left make the least of all
abbrev pub invariant-loop-edge : goal.invariant-loop-edge
invariant-loop-edge l = least l.whole (map (released l.network l.wholes) (drop l.edge-index l.edge-items))
    ≡ least (horizon l.network) (map (released l.network l.wholes) l.edge-items)
