use Rattle.std.proofs.Common.{◌≡◌, ◌≤◌, ◌++◌, length, vec_len, vec_capacity}
use Rattle.std.specs.Option.{option_to_list}
use Rattle.std.specs.Vec.Iter.{into_iter_items}
use Rattle.mrp_run.specs.Joined.{faults_in}
use Rattle.mrp_run.specs.Worst.{IsWorstOf}
use Rattle.mrp_run.proofs.JoinedFaults.{plants_in}
use Rattle.mrp_run.proofs.results.all_of.Given as goal

-- the plants that were brought back so far, and the worst fault so far
abbrev pub invariant-loop-back : goal.invariant-loop-back
invariant-loop-back l = record {
  whole : l.yielded ++ into_iter_items l.back-iterator ≡ l.fn.backs.items;
  plants : l.plants.items ≡ plants_in l.yielded;
  count : vec_len l.plants ≤ length l.yielded;
  room : vec_capacity l.fn.plants ≤ vec_capacity l.plants;
  worst : IsWorstOf l.worst (option_to_list l.fn.before ++ faults_in l.yielded);
}
