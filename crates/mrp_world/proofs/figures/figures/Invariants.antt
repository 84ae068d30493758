use Rattle.std.proofs.Common.{◌≡◌, ℕ}
use Rattle.std.specs.List.{flat_map, range_with_len}
use Rattle.mrp_protocol.specs.State.{State}
use Rattle.mrp_world.specs.Figures.{figures_in_lane}
use Rattle.mrp_world.specs.Moves.{AreAt}
use Rattle.mrp_world.proofs.figures.figures.Given as goal

-- the figures of the lanes so far
abbrev pub invariant-loop-l : goal.invariant-loop-l
invariant-loop-l g l = (capacity : ℕ) (s : State) → AreAt g.P.Plant.shows l.network capacity l.plants l.boxes s
    → l.figures.items ≡ flat_map (figures_in_lane l.network s) (range_with_len 0 l.l)
