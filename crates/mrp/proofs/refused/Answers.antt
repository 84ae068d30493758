use Rattle.std.proofs.Common.{◌∙◌}
use Rattle.mrp.proofs.refused.Goals as goal
use Rattle.mrp.proofs.refused.Goals.{in-Ok, in-Err}

pub returns-in-Memory-clause-status : goal.returns-in-Memory-clause-status
returns-in-Memory-clause-status g c = rw (c.in-Memory.is) c.ended.ensures.status

pub returns-in-Memory-clause-printed : goal.returns-in-Memory-clause-printed
returns-in-Memory-clause-printed g c = rw (c.in-Memory.is) c.ended.ensures.printed

pub returns-in-Memory-clause-line : goal.returns-in-Memory-clause-line
returns-in-Memory-clause-line g c = rw (c.in-Memory.is) c.ended.ensures.line

pub returns-in-Asked-clause-status : goal.returns-in-Asked-clause-status
returns-in-Asked-clause-status g c =
    rw (c.in-Asked.is)
    (elim c.match-said.branch [
      | in-Ok w ↦ rw (w.in-Ok.is) (rw (w.printed-is) at c.after_help.ensures.status)
      | in-Err w ↦ rw (w.in-Err.is) (rw (w.printed-is) at c.after_help.ensures.status)
    ])

pub returns-in-Asked-clause-printed : goal.returns-in-Asked-clause-printed
returns-in-Asked-clause-printed g c =
    rw (c.in-Asked.is)
    (elim c.match-said.branch [
      | in-Ok w ↦ rw (w.in-Ok.is) (c.after_help.ensures.same ∙ w.printed-is)
      | in-Err w ↦ rw (w.in-Err.is) (c.after_help.ensures.same ∙ w.printed-is)
    ])

pub returns-in-Asked-clause-line : goal.returns-in-Asked-clause-line
returns-in-Asked-clause-line g c =
    rw (c.in-Asked.is)
    (elim c.match-said.branch [
      | in-Ok w ↦ rw (w.in-Ok.is) (rw (w.printed-is) at c.after_help.ensures.line)
      | in-Err w ↦ rw (w.in-Err.is) (rw (w.printed-is) at c.after_help.ensures.line)
    ])
