use Rattle.std.proofs.Common.{◌≡◌, length, All}
use Rattle.mrp_crew.specs.Rooms.{IsRoom}
use Rattle.mrp_crew.proofs.rooms.refill.Given as goal

-- there are as many rooms as were counted
abbrev pub invariant-loop : goal.invariant-loop
invariant-loop l = record {
  rooms : All (IsRoom l.horizon) l.rooms.items;
  size : length l.rooms.items ≡ l.counter;
}
