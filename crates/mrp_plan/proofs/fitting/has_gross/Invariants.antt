use Rattle.std.proofs.Common.{◌≡◌, ℕ, ◌<◌, slice_index}
use Rattle.mrp_net.specs.Plan.{gross}
use Rattle.mrp_plan.proofs.fitting.has_gross.Given as goal

-- the periods before t have the gross requirements
abbrev pub invariant-loop-t : goal.invariant-loop-t
invariant-loop-t l = (k : ℕ) → k < l.t → slice_index l.row k ≡ gross l.network l.plan l.x.0 k
