use Rattle.mrp_report.proofs.DigitFacts.{per_short}
use Rattle.std.proofs.Common.{arith}
use Rattle.mrp_report.proofs.pegs.per_field.Goals as goal

pub write_per-start-requires-clause-room : goal.write_per-start-requires-clause-room
write_per-start-requires-clause-room c = per_short c.args.per c.args.base (omega arith) (omega arith)
