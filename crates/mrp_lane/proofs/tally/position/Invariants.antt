use Rattle.std.proofs.Common.{◌≡◌, ◌==◌, false, All, take}
use Rattle.mrp_lane.proofs.tally.position.Given as goal

-- none of those so far is the item's
abbrev pub invariant-loop-at : goal.invariant-loop-at
invariant-loop-at l = All (λ i. (l.item.0 == i.item.0) ≡ false) (take l.at l.items)
