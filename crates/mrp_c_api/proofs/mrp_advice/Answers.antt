use Rattle.std.proofs.Common.{sym}
use Rattle.mrp_c_api.proofs.mrp_advice.Goals as goal

pub returns : goal.returns
returns c = rw (sym c.reading_of-reading.ensures) c.advice.ensures
