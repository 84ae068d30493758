use Rattle.std.proofs.Common.{◌≡◌, ◌-◌, ◌<◌, ℕ, false, All, reverse, length, get_or, slice_index}
use Rattle.mrp_master_data.specs.Table.{IsPair}
use Rattle.mrp_loops.specs.Taking.{is_in}
use Rattle.mrp_loops.specs.Upstream.{ComesFrom, IsMet}
use Rattle.mrp_loops.specs.Walk.{IsApart}
use Rattle.mrp_loops.proofs.Climbing.{Climbs}
use Rattle.mrp_loops.proofs.walk.walk.Given as goal

abbrev pub invariant-loop-visited : goal.invariant-loop-visited
invariant-loop-visited l = record {
  size : length l.visited.items ≡ length l.network.pairs;
  seen : (y : ℕ) → IsPair l.network y → get_or l.visited.items y false ≡ is_in l.path.items y;
  pairs : All (λ z. IsPair l.network z.0) l.path.items;
  apart : IsApart l.path.items;
  climbs : Climbs (ComesFrom l.network) l.x.0 (reverse l.path.items);
  met : All (λ z. IsMet l.network z.0) l.path.items;
  comes : IsMet l.network l.x.0;
  pair : IsPair l.network l.x.0;
  left : 0 < slice_index l.left l.x.0;
}

abbrev pub decreases-loop-visited : goal.decreases-loop-visited
decreases-loop-visited l = length l.network.pairs - length l.path.items
