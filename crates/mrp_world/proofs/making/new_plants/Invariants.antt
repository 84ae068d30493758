use Rattle.std.proofs.Common.{◌≡◌, ℕ, ◌<◌, length, get_or}
use Rattle.mrp_protocol.specs.State.{opening_state}
use Rattle.mrp_world.proofs.making.new_plants.Given as goal

-- each plant so far shows the opening state
abbrev pub invariant-loop-p : goal.invariant-loop-p
invariant-loop-p g l = record {
  size : length l.plants.items ≡ l.p;
  each : (k : ℕ) (d : g.row.P.Denot) → k < length l.plants.items → g.P.Plant.shows l.network k opening_state (get_or l.plants.items k d);
}
