use Rattle.std.proofs.Common.{◌<◌, ◌≤◌, length, arith}
use Rattle.mrp_readiness.proofs.ReadyPlacing.{chosen_slot, removed, shown_where}
use Rattle.mrp_readiness.proofs.pair_set.PairSet.remove.Goals as goal
use Rattle.mrp_readiness.proofs.pair_set.PairSet.remove.Goals.{After-exchange-arg-1}

-- the slot of a chosen pair is one of those of the chosen
slot : (c : After-exchange-arg-1) → (c.self.inside.begin ≤ c.index-slot.result.now) × (c.index-slot.result.now < c.self.inside.end)
    × (c.self.inside.end ≤ length c.self.inside.slots.slots.items)
slot c =
    let s = c.self.inside.slots in
    let is = chosen_slot s.numbers.items s.places.items s.slots.items c.self.inside.begin c.self.inside.end c.args.x c.index-slot.result.now c.args.self.now
    c.self.invariant c.self.view_is c.index-slot.ensures c.requires in
    (is.2, is.3, c.self.invariant.few)

pub exchange-requires-clause-first : goal.exchange-requires-clause-first
exchange-requires-clause-first c = omega (arith, (slot c).1, (slot c).2, c.self.invariant.filled)

pub exchange-requires-clause-second : goal.exchange-requires-clause-second
exchange-requires-clause-second c = omega (arith, (slot c).0, (slot c).1, (slot c).2, c.self.invariant.filled)

pub exchange-requires-clause-numbered : goal.exchange-requires-clause-numbered
exchange-requires-clause-numbered c = omega (arith, c.self.invariant.numbered, c.self.invariant.filled)

pub exchange-requires-clause-slot_of_first : goal.exchange-requires-clause-slot_of_first
exchange-requires-clause-slot_of_first c = c.self.invariant.place_within c.index-slot.result.now (omega (arith, (slot c).1, (slot c).2))

pub exchange-requires-clause-slot_of_second : goal.exchange-requires-clause-slot_of_second
exchange-requires-clause-slot_of_second c = c.self.invariant.place_within c.self.inside.begin (omega (arith, (slot c).0, (slot c).1, (slot c).2))

pub overflow_add-self : goal.overflow_add-self
overflow_add-self c =
    let is = slot (goal.at.overflow_add-self c).After-exchange-arg-1 in
    omega (arith, is.0, is.1)

pub invariant_of-self : goal.invariant_of-self
invariant_of-self c =
    let s = c.self.inside.slots in
    (removed s.numbers.items s.places.items s.slots.items c.self.inside.begin c.self.inside.end c.args.x c.index-slot.result.now c.args.self.now _ _ _
    c.self.invariant c.self.view_is c.index-slot.ensures c.requires c.exchange.ensures.numbers c.exchange.ensures.places c.exchange.ensures.slots).0

pub returns : goal.returns
returns c =
    let s = c.self.inside.slots in
    let is = removed s.numbers.items s.places.items s.slots.items c.self.inside.begin c.self.inside.end c.args.x c.index-slot.result.now c.args.self.now _ _ _
    c.self.invariant c.self.view_is c.index-slot.ensures c.requires c.exchange.ensures.numbers c.exchange.ensures.places c.exchange.ensures.slots in
    record { numbers = is.1; gone = is.2; others = is.3 }

pub index-slot-requires : goal.index-slot-requires
index-slot-requires c =
    let s = c.self.inside.slots in
    let is = shown_where s.numbers.items s.places.items s.slots.items c.self.inside.begin c.self.inside.end c.args.self.now c.self.invariant c.self.view_is
    c.args.x in
    rw s.slots.ok.0 (is.0 c.requires).0
