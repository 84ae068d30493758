use Rattle.std.proofs.Common.{length, ap, arith}
use Rattle.mrp_loops.proofs.Steps.{hand_begins, hand_code, hand_waits, hand_more, hand_ends, hand_long, hand_read, hand_pair, hand_short, hand_so_far}
use Rattle.mrp_loops.proofs.Steps.{hand_within, no_edge}
use Rattle.mrp_loops.proofs.taking.pass.Goals as goal

pub loop-edge-init : goal.loop-edge-init
loop-edge-init c =
    let state = c.args.state.now in
    let at = hand_read c.args.network.now c.args.next c.args.demander state.queue.items state.left.items state.codes.items c.requires.within c.requires.at
    c.requires.taken c.index.result.now c.index.ensures in
    rw (at, c.suppliers-edge-items.ensures.value)
    (hand_begins c.args.network.now c.args.next c.args.demander state.queue.items state.left.items state.codes.items c.requires.within c.requires.at
    c.requires.taken)

pub lower-requires-clause-some : goal.lower-requires-clause-some
lower-requires-clause-some c =
    let state = c.args.state.now in
    let es = c.suppliers-edge-items.ensures.value in
    let p = hand_so_far c.args.network.now c.args.next c.args.demander state.queue.items state.left.items state.codes.items c.requires.within c.requires.at
    c.requires.taken c.index.result.now _ c.loop-edge.edge-index c.loop-edge.state.queue.items c.loop-edge.state.left.items c.loop-edge.state.codes.items
    c.index.ensures c.suppliers-edge-items.ensures.value c.loop-edge.invariant in
    rw es
    (hand_waits c.args.network.now c.args.next c.args.demander state.queue.items state.left.items state.codes.items c.requires.within c.requires.at
    c.requires.taken
    c.loop-edge.edge-index no_edge c.loop-edge.state.queue.items c.loop-edge.state.left.items c.loop-edge.state.codes.items (omega (arith, ap length es)) p)

pub loop-edge-preserved : goal.loop-edge-preserved
loop-edge-preserved c =
    let state = c.args.state.now in
    let es = c.suppliers-edge-items.ensures.value in
    let at = hand_read c.args.network.now c.args.next c.args.demander state.queue.items state.left.items state.codes.items c.requires.within c.requires.at
    c.requires.taken c.index.result.now c.index.ensures in
    let p = hand_so_far c.args.network.now c.args.next c.args.demander state.queue.items state.left.items state.codes.items c.requires.within c.requires.at
    c.requires.taken c.index.result.now _ c.loop-edge.edge-index c.loop-edge.state.queue.items c.loop-edge.state.left.items c.loop-edge.state.codes.items
    c.index.ensures c.suppliers-edge-items.ensures.value c.loop-edge.invariant in
    rw (es, at)
    (hand_more c.args.network.now c.args.next c.args.demander state.queue.items state.left.items state.codes.items c.requires.within c.requires.at
    c.requires.taken
    c.loop-edge.edge-index no_edge c.loop-edge.state.queue.items c.lower.new.state.queue.items c.loop-edge.state.left.items c.loop-edge.state.codes.items
    c.lower.new.state.left.items c.lower.new.state.codes.items
    (omega (arith, ap length es)) p
    (rw (← es) c.in_ok-lower.ensures.left) (rw (← es, ← at) c.in_ok-lower.ensures.codes) (rw (← es) c.in_ok-lower.ensures.queue))

pub returns-clause-taken : goal.returns-clause-taken
returns-clause-taken c =
    let state = c.args.state.now in
    let es = c.suppliers-edge-items.ensures.value in
    let p = hand_so_far c.args.network.now c.args.next c.args.demander state.queue.items state.left.items state.codes.items c.requires.within c.requires.at
    c.requires.taken c.index.result.now _ c.loop-edge.edge-index c.loop-edge.state.queue.items c.loop-edge.state.left.items c.loop-edge.state.codes.items
    c.index.ensures c.suppliers-edge-items.ensures.value c.loop-edge.invariant in
    hand_ends c.args.network.now c.args.next c.args.demander state.queue.items state.left.items state.codes.items c.requires.within c.requires.at
    c.requires.taken
    c.loop-edge.edge-index c.loop-edge.state.queue.items c.loop-edge.state.left.items c.loop-edge.state.codes.items (omega (arith, ap length es)) p

pub returns-clause-within : goal.returns-clause-within
returns-clause-within c =
    let state = c.args.state.now in
    let p = hand_so_far c.args.network.now c.args.next c.args.demander state.queue.items state.left.items state.codes.items c.requires.within c.requires.at
    c.requires.taken c.index.result.now _ c.loop-edge.edge-index c.loop-edge.state.queue.items c.loop-edge.state.left.items c.loop-edge.state.codes.items
    c.index.ensures c.suppliers-edge-items.ensures.value c.loop-edge.invariant in
    hand_long c.args.network.now c.args.next c.args.demander state.queue.items state.left.items state.codes.items c.requires.within c.requires.at
    c.requires.taken
    c.loop-edge.edge-index c.loop-edge.state.queue.items c.loop-edge.state.left.items c.loop-edge.state.codes.items p

pub lower-requires-clause-left : goal.lower-requires-clause-left
lower-requires-clause-left c =
    let state = c.args.state.now in
    hand_within c.args.network.now c.args.next c.args.demander state.queue.items state.left.items state.codes.items c.requires.within c.requires.at
    c.requires.taken
    c.suppliers-edge-items.result.now c.loop-edge.edge-index _ c.loop-edge-test.true c.suppliers-edge-items.ensures.value
    c.loop-edge.invariant.counted.left_size

pub lower-requires-clause-codes : goal.lower-requires-clause-codes
lower-requires-clause-codes c =
    let state = c.args.state.now in
    hand_within c.args.network.now c.args.next c.args.demander state.queue.items state.left.items state.codes.items c.requires.within c.requires.at
    c.requires.taken
    c.suppliers-edge-items.result.now c.loop-edge.edge-index _ c.loop-edge-test.true c.suppliers-edge-items.ensures.value
    c.loop-edge.invariant.counted.codes_size

pub suppliers-edge-items-requires : goal.suppliers-edge-items-requires
suppliers-edge-items-requires c =
    let state = c.args.state.now in
    hand_pair c.args.network.now c.args.next c.args.demander state.queue.items state.left.items state.codes.items c.requires.within c.requires.at
    c.requires.taken

pub index-requires : goal.index-requires
index-requires c =
    let state = c.args.state.now in
    rw state.codes.ok.0 (hand_code c.args.network.now c.args.next c.args.demander state.queue.items state.left.items state.codes.items c.requires.within
    c.requires.at c.requires.taken)

pub overflow_add-code : goal.overflow_add-code
overflow_add-code c =
    let state = c.args.state.now in
    let short = hand_short c.args.network.now c.args.next c.args.demander state.queue.items state.left.items state.codes.items c.requires.within c.requires.at
    c.requires.taken c.index.result.now c.index.ensures in
    omega (arith, short, state.queue.ok, state.queue.small)
