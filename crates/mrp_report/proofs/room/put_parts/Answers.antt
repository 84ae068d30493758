use Rattle.std.proofs.Common.{append_assoc, refl}
use Rattle.mrp_csv_out.specs.Rows.{row}
use Rattle.mrp_report.proofs.room.put_parts.Goals as goal

pub returns-clause-row : goal.returns-clause-row
unfolding row
returns-clause-row c = rw (c.put.ensures.bytes, c.put-second.ensures.bytes, c.put-comma.ensures.bytes, c.put-first.ensures.bytes) (simp append_assoc refl)
