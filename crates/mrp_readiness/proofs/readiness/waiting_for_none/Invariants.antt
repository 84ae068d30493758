use Rattle.std.proofs.Common.{◌≡◌, []}
use Rattle.mrp_readiness.proofs.Listing.{WaitForNone}
use Rattle.mrp_readiness.proofs.readiness.waiting_for_none.Given as goal

abbrev pub invariant-loop-x : goal.invariant-loop-x
invariant-loop-x l = record {
  numbers : l.ready.numbers ≡ l.numbers;
  gone : l.ready.gone ≡ [];
  free : WaitForNone l.ready.places l.waits l.x;
}
