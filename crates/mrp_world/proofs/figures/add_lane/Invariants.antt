use Rattle.std.proofs.Common.{◌≡◌, ◌++◌, ℕ, map, take}
use Rattle.mrp_protocol.specs.State.{State}
use Rattle.mrp_world.specs.Figures.{lane_figure_at}
use Rattle.mrp_world.specs.Moves.{AreAt}
use Rattle.mrp_world.proofs.figures.add_lane.Given as goal

-- the figures of the items so far are added
abbrev pub invariant-loop-item : goal.invariant-loop-item
invariant-loop-item g l = (capacity : ℕ) (s : State) → AreAt g.P.Plant.shows l.network capacity l.plants l.boxes s
    → l.figures.items ≡ l.initial.figures.items ++ map (lane_figure_at l.network s l.lane.0) (take l.item-index l.item-items)
