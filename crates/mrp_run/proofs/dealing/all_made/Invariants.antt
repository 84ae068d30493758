use Rattle.std.proofs.Common.{◌≡◌, ◌≤◌, ◌++◌, Ok, length, map, vec_capacity}
use Rattle.std.specs.Vec.Iter.{into_iter_items}
use Rattle.mrp_run.proofs.dealing.all_made.Given as goal

-- the plants so far were made
abbrev pub invariant-loop-plant : goal.invariant-loop-plant
invariant-loop-plant l = record {
  whole : l.yielded ++ into_iter_items l.plant-iterator ≡ l.fn.made.items;
  so_far : l.yielded ≡ map Ok l.plants.items;
  room : length l.fn.made.items ≤ vec_capacity l.plants;
}
