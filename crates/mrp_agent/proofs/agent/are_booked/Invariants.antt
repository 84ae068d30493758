use Rattle.std.proofs.Common.{◌≡◌, take, true}
use Rattle.std.specs.List.{list_all}
use Rattle.mrp_agent.proofs.agent.are_booked.Given as goal

abbrev pub invariant-loop-book : goal.invariant-loop-book
invariant-loop-book l = list_all (λ b. b.closed) (take l.book-index l.books) ≡ true
