use Rattle.std.proofs.Common.{ℕ, ◌<◌, ◌≤◌, get_or}
use Rattle.mrp_master_data.specs.declared.numbers.PairNo.{PairNo}
use Rattle.mrp_loops.proofs.walk.least.Given as goal

abbrev pub invariant-loop-k : goal.invariant-loop-k
invariant-loop-k l = record {
  before : l.first < l.k;
  first : (j : ℕ) (d : PairNo) → j < l.k → (get_or l.pairs l.first d).0 ≤ (get_or l.pairs j d).0;
}
