use Rattle.std.proofs.Common.{◌≤◌, arith, drop, length, length-drop}
use Rattle.std.proofs.lemmas.List.{take_rest}
use Rattle.mrp_csv_out.proofs.RowFacts.{front-more}
use Rattle.mrp_csv_out.proofs.writing.send.Goals as goal

pub writes-preserved : goal.writes-preserved
writes-preserved g c =
    let bound : c.in-Ok.taken ≤ length (drop c.writes.sent c.args.bytes.now) = rw take_rest at c.in-Ok.ensures.bound in
    record {
      within = omega (arith, length-drop c.writes.sent c.args.bytes.now);
      sent = front-more _ _ _ c.args.bytes.now c.writes.sent c.in-Ok.taken c.writes.invariant.sent (rw take_rest at c.in-Ok.ensures.bytes);
    }
