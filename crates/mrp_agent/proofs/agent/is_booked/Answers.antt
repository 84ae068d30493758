use Rattle.std.proofs.Common.{sym, ap, ◌∙◌}
use Rattle.mrp_book.specs.Figures.{Figures}
use Rattle.mrp_agent.proofs.agent.is_booked.Goals as goal

pub returns : goal.returns
returns c = c.closed.ensures c.requires.form c.requires.records c.requires.shows ∙ sym (ap (λ (b : Figures). b.closed) c.requires.shows.is)
