use Rattle.std.proofs.Common.{◌≡◌, ◌+◌, ◌≤◌, length, take, All}
use Rattle.std.specs.Prelude.{vec_capacity}
use Rattle.mrp_crew.specs.Rooms.{IsRoom}
use Rattle.mrp_crew.specs.Started.{IsWorkerOf, IsFor, ordered}
use Rattle.mrp_crew.proofs.threads.start_all.Given as goal

-- threads run for the first of the pairs, and there are rooms and places for the others
abbrev pub invariant-loop-pair : goal.invariant-loop-pair
invariant-loop-pair g l = record {
  started : take l.pair-index l.pairs ≡ ordered l.workers.items;
  number : length l.workers.items ≡ l.pair-index;
  enough : length l.pairs ≤ length l.rooms.items + l.pair-index;
  places : length l.pairs ≤ vec_capacity l.workers;
  rooms : All (IsRoom l.agent.view.horizon) l.rooms.items;
  told : All (IsFor l.agent) l.workers.items;
  at : All (IsWorkerOf l.plant (length l.pairs + 1)) l.workers.items;
}
