use Rattle.std.proofs.Common.{◌≡◌, ◌++◌, ◌≤◌, length, vec_capacity}
use Rattle.std.specs.Vec.Iter.{into_iter_items}
use Rattle.mrp_master_data.specs.Table.{Table}
use Rattle.mrp_run.specs.Ends.{HavePlans}
use Rattle.mrp_run.proofs.GatheredPlans.{AreOwn}
use Rattle.mrp_run.proofs.gathering.plans_by_plant.Given as goal

-- the plants so far have given the plans of their pairs
abbrev pub invariant-loop-plant : goal.invariant-loop-plant
invariant-loop-plant l = record {
  whole : l.yielded ++ into_iter_items l.plant-iterator ≡ l.fn.plants.items;
  size : length l.given.items ≡ length l.yielded;
  room : length l.fn.plants.items ≤ vec_capacity l.given;
  own : (N : Table) → HavePlans N l.fn.plants.items → AreOwn N l.given.items;
}
