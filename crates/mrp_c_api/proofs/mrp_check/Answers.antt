use Rattle.std.proofs.Common.{sym}
use Rattle.mrp_c_api.proofs.mrp_check.Goals as goal

pub returns : goal.returns
returns c = rw (sym c.reading_of-reading.ensures) c.check.ensures
