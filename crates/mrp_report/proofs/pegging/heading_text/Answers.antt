use Rattle.std.proofs.Common.{refl}
use Rattle.mrp_csv_out.specs.Rows.{row}
use Rattle.mrp_report.proofs.pegging.heading_text.Goals as goal

pub returns-in-Names-clause-text : goal.returns-in-Names-clause-text
unfolding row
returns-in-Names-clause-text c = rw c.in-Names.is refl
