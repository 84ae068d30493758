use Rattle.std.proofs.Common.{◌≡◌, ℕ, ◌<◌, ◌++◌, length, get_or, Vec, Global}
use Rattle.std.specs.Vec.Iter.{into_iter_items}
use Rattle.mrp_netting.specs.declared.plan.PairPlan.{PairPlan}
use Rattle.mrp_world.specs.Gathering.{own_plans}
use Rattle.mrp_world.proofs.gathering.plans_by_plant.Given as goal

-- the plants so far have given the plans of their pairs
abbrev pub invariant-loop-plant : goal.invariant-loop-plant
invariant-loop-plant g l = record {
  whole : l.yielded ++ into_iter_items l.plant-iterator ≡ l.fn.plants.items;
  size : length l.lists.items ≡ length l.yielded;
  each : (k : ℕ) (d : Vec PairPlan Global) → k < length l.lists.items → (get_or l.lists.items k d).items ≡ own_plans l.network k;
}
