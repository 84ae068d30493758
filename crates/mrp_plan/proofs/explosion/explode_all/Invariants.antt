use Rattle.std.proofs.Common.{◌≡◌, ℕ, ◌+◌, ◌<◌, ◌≤◌, length, sum, slice_index, take}
use Rattle.mrp_net.specs.Plan.{asked}
use Rattle.mrp_plan.specs.Explosion.{asked_total}
use Rattle.mrp_plan.proofs.explosion.explode_all.Given as goal

-- what the edges passed so far ask is added
abbrev pub invariant-loop-edge : goal.invariant-loop-edge
invariant-loop-edge l = record {
  size : length l.gross ≡ length l.initial.gross;
  each : (t : ℕ) → t < length l.gross → slice_index l.gross t ≡ slice_index l.initial.gross t + asked l.network l.plans (take l.edge-index l.edges) t;
  total : sum l.gross ≤ sum l.initial.gross + asked_total l.network l.plans (take l.edge-index l.edges);
}
