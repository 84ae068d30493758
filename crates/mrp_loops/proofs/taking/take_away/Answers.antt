use Rattle.std.proofs.Common.{◌≤◌, List, length, subst, arith}
use Rattle.std.proofs.lemmas.List.{take_all}
use Rattle.mrp_master_data.specs.declared.numbers.PairNo.{PairNo}
use Rattle.mrp_loops.specs.Taking.{IsTaken}
use Rattle.mrp_loops.proofs.Taken.{length-apart}
use Rattle.mrp_loops.proofs.taking.take_away.Goals as goal

pub loop-next-smaller : goal.loop-next-smaller
loop-next-smaller c =
    let counted = c.loop-next.invariant.taken.counted in
    let short : length c.loop-next.state.queue.items ≤ length c.args.network.now.pairs =
    length-apart c.loop-next.state.queue.items (length c.args.network.now.pairs) counted.once counted.pairs in
    omega (arith, c.loop-next-test.true, c.len.ensures)

pub loop-next-init : goal.loop-next-init
loop-next-init c = record { within = omega arith; taken = c.in_ok-state.ensures }

pub pass-requires-clause-taken : goal.pass-requires-clause-taken
pass-requires-clause-taken c = c.loop-next.invariant.taken

pub loop-next-preserved : goal.loop-next-preserved
loop-next-preserved c = record { within = c.in_ok-pass.ensures.within; taken = c.in_ok-pass.ensures.taken }

pub returns : goal.returns
returns c =
    let state = c.loop-next.state in
    subst (λ (taken : List PairNo). IsTaken c.args.network.now taken state.queue.items state.left.items state.codes.items)
    (take_all c.loop-next.next state.queue.items (omega (arith, c.loop-next-test.false, c.len.ensures))) c.loop-next.invariant.taken
