use Rattle.std.proofs.Common.{◌≡◌, ◌+◌, sum, take, drop}
use Rattle.mrp_netting.specs.PlanningData.{need, greatest}
use Rattle.mrp_netting.specs.PlanningBound.{data_of}
use Rattle.mrp_netting.proofs.orders.greatest_need.Given as goal

-- both sums and the greatest need of the periods so far
abbrev pub invariant-loop-n : goal.invariant-loop-n
invariant-loop-n l = record {
  needed : l.needed ≡ l.given.params.safety + sum (take (l.n + l.given.policy.cover) (drop l.t l.gross));
  had : l.had ≡ l.fn.before + sum (take l.n (drop l.t l.incoming));
  most : l.most ≡ greatest (need (data_of l.given l.gross) l.fn.before l.t) l.n;
}
