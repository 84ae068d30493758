use Rattle.std.proofs.Common.{ℕ, refl, get_or}
use Rattle.mrp_net.specs.Sums.{received_when_due}
use Rattle.mrp_net.proofs.Awaiting.{rows_more}
use Rattle.mrp_net.proofs.incoming.received_of.Goals as goal

pub loop-x-preserved : goal.loop-x-preserved
loop-x-preserved c =
    let N = c.args.tables.now in
    let i : ℕ = c.loop-x.x-index in
    rows_more N (received_when_due N) c.args.pairs.now c.loop-x.rows.items c.extend_from_slice.new.self.items _ i (get_or c.args.pairs.now i 0)
    c.loop-x-test.true refl c.row_when_due.ensures c.in_ok-extend_from_slice.ensures.items c.loop-x.invariant
