use Rattle.std.proofs.Common.{◌≡◌, map, take}
use Rattle.mrp_agent.specs.Making.{new_figures}
use Rattle.mrp_agent.proofs.making.new_books.Given as goal

abbrev pub invariant-loop-lane : goal.invariant-loop-lane
invariant-loop-lane l = l.books.items ≡ map (new_figures l.view) (take l.lane-index l.lanes)
