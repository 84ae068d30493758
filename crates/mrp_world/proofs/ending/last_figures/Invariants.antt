use Rattle.std.proofs.Common.{◌≡◌}
use Rattle.std.specs.List.{flat_map, range_with_len}
use Rattle.mrp_world.specs.Figures.{last_on}
use Rattle.mrp_world.proofs.ending.last_figures.Given as goal

-- the figures of the lanes so far
abbrev pub invariant-loop-l : goal.invariant-loop-l
invariant-loop-l l = l.figures.items ≡ flat_map (last_on l.network) (range_with_len 0 l.l)
