use Rattle.mrp_readiness.proofs.ReadyPlacing.{first_set}
use Rattle.mrp_readiness.proofs.pair_set.PairSet.new.Goals as goal

pub invariant_of-result : goal.invariant_of-result
invariant_of-result c =
    let s = c.in_ok-slots.slots in
    (first_set s.numbers.items c.args.numbers.now s.places.items s.slots.items c.in_ok-slots.ensures.numbers c.in_ok-slots.ensures.places
    c.in_ok-slots.ensures.slots).0

pub returns-clause-numbers : goal.returns-clause-numbers
returns-clause-numbers c =
    let s = c.in_ok-slots.slots in
    (first_set s.numbers.items c.args.numbers.now s.places.items s.slots.items c.in_ok-slots.ensures.numbers c.in_ok-slots.ensures.places
    c.in_ok-slots.ensures.slots).1
