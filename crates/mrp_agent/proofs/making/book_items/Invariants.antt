use Rattle.std.proofs.Common.{◌≡◌, map, take}
use Rattle.mrp_agent.specs.Shows.{book_item}
use Rattle.mrp_agent.proofs.making.book_items.Given as goal

abbrev pub invariant-loop-item : goal.invariant-loop-item
invariant-loop-item l = l.found.items ≡ map book_item (take l.item-index l.items)
