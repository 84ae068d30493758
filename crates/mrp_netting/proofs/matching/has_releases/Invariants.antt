use Rattle.std.proofs.Common.{◌≡◌, ℕ, ◌<◌, slice_index}
use Rattle.mrp_netting.specs.PlanningData.{release_at}
use Rattle.mrp_netting.specs.PlanningBound.{data_of}
use Rattle.mrp_netting.proofs.matching.has_releases.Given as goal

-- the periods before u have what is released
abbrev pub invariant-loop-u : goal.invariant-loop-u
invariant-loop-u l = (k : ℕ) → k < l.u → slice_index l.release k ≡ release_at (data_of l.given l.gross) l.order k
