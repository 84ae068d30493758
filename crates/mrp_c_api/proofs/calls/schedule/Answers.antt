use Rattle.std.proofs.Common.{inl, sym}
use Rattle.mrp_c_api.proofs.calls.schedule.Goals as goal

pub returns : goal.returns
returns c =
    rw (sym c.heading-heading.ensures)
    (inl (
      c.in-Ok.ensures.cases.1,
      c.in-Ok-from_utf8.ensures.cases.1,
      rw (sym c.in-Ok.ensures.cases.0) (rw (sym c.in-Ok-from_utf8.ensures.cases.0)
          (rw (sym c.given-from.ensures) (rw (sym c.given-to.ensures) c.answer.ensures))),
    ))
