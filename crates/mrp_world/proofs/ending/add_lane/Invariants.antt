use Rattle.std.proofs.Common.{◌≡◌, ◌++◌, map, take}
use Rattle.mrp_world.specs.Figures.{settled_figure}
use Rattle.mrp_world.proofs.ending.add_lane.Given as goal

-- the figures of the items so far are added
abbrev pub invariant-loop-item : goal.invariant-loop-item
invariant-loop-item l = l.figures.items ≡ l.fn.figures.items ++ map (settled_figure l.network l.lane.0) (take l.item-index l.item-items)
