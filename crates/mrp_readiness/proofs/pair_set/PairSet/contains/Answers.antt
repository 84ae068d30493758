use Rattle.std.proofs.Common.{◌≡◌, ◌<◌, ◌≤◌, length, get_or, arith}
use Rattle.std.proofs.lemmas.Bool.{false≢true, ltb-true, lt-ltb, leb-true}
use Rattle.std.proofs.lemmas.List.{get_or_read}
use Rattle.mrp_readiness.proofs.ReadyPlacing.{shown_where}
use Rattle.mrp_readiness.proofs.pair_set.PairSet.contains.Goals as goal

pub returns-then-self-slot : goal.returns-then-self-slot
returns-then-self-slot c =
    let s = c.self.inside.slots in
    let is = shown_where s.numbers.items s.places.items s.slots.items c.self.inside.begin c.self.inside.end c.args.self.now c.self.invariant c.self.view_is
    c.args.x in
    let within : c.args.x < length s.slots.items = omega (arith, c.if-x-len.false, c.len.ensures) in
    let read : c.index-slot.result.now ≡ get_or s.slots.items c.args.x 0 =
    get_or_read s.slots.items c.args.x c.index-slot.result.now within c.index-slot.ensures 0 in (
      λ t. is.1 (within, omega (arith, read, c.if-self-slot.true), omega (arith, read, ltb-true c.index-slot.result.now c.self.inside.end t)),
      λ h. lt-ltb c.index-slot.result.now c.self.inside.end (omega (arith, read, (is.0 h).2)),
    )

pub returns-else-self-slot : goal.returns-else-self-slot
returns-else-self-slot c =
    let s = c.self.inside.slots in
    let is = shown_where s.numbers.items s.places.items s.slots.items c.self.inside.begin c.self.inside.end c.args.self.now c.self.invariant c.self.view_is
    c.args.x in
    let read = get_or_read s.slots.items c.args.x c.index-slot.result.now (omega (arith, c.if-x-len.false, c.len.ensures)) c.index-slot.ensures 0 in (
      λ t. let reached : c.self.inside.begin ≤ c.index-slot.result.now =
          leb-true c.self.inside.begin c.index-slot.result.now t in absurd (omega (arith, c.if-self-slot.false)),
      λ h. let reached : c.self.inside.begin ≤ get_or s.slots.items c.args.x 0 = (is.0 h).1 in absurd (omega (arith, read, c.if-self-slot.false)),
    )

pub returns-then-x-len : goal.returns-then-x-len
returns-then-x-len c =
    let s = c.self.inside.slots in
    let is = shown_where s.numbers.items s.places.items s.slots.items c.self.inside.begin c.self.inside.end c.args.self.now c.self.invariant c.self.view_is
    c.args.x in
    let short : length s.slots.items ≤ c.args.x = omega (arith, c.if-x-len.true, c.len.ensures) in
    (λ t. absurd (false≢true t), λ h. absurd (omega (arith, (is.0 h).0, short)))

pub index-slot-requires : goal.index-slot-requires
index-slot-requires c = rw c.len.ensures at c.if-x-len.false
