use Rattle.std.proofs.Common.{◌≡◌, ◌++◌, drop}
use Rattle.mrp_lane.specs.Reconciled.{figures_of}
use Rattle.mrp_lane.proofs.joining.lane_figures.Given as goal

-- the figures so far and those of the rest are the figures of all
abbrev pub invariant-loop-at : goal.invariant-loop-at
invariant-loop-at l = l.figures.items ++ figures_of l.lane (drop l.at l.sent) (drop l.at l.taken) ≡ figures_of l.lane l.sent l.taken
