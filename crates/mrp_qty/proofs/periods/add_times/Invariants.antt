use Rattle.std.proofs.Common.{◌≡◌, ℕ, ◌+◌, ◌*◌, ◌≤◌, ◌<◌, slice_index}
use Rattle.mrp_qty.proofs.periods.add_times.Given as goal

-- the periods before this one have their sums, and the others are as they were
abbrev pub invariant-loop-t : goal.invariant-loop-t
invariant-loop-t l = record {
  done : (k : ℕ) → k < l.t → slice_index l.amounts k ≡ slice_index l.initial.amounts k + l.times * slice_index l.added k;
  rest : (k : ℕ) → l.t ≤ k → slice_index l.amounts k ≡ slice_index l.initial.amounts k;
}
