use Rattle.std.proofs.Common.{sym}
use Rattle.mrp_c_api.proofs.calls.advice.Goals as goal

pub returns : goal.returns
returns c =
    rw (sym c.limit-until.ensures) (rw (sym c.heading-heading.ensures) c.answer.ensures)
