use Rattle.std.proofs.Common.{◌∙◌, ap, ◌==◌}
use Rattle.std.specs.Prelude.{position}
use Rattle.mrp_book.specs.Figures.{Figures}
use Rattle.mrp_book.proofs.Places.{place_of_item}
use Rattle.mrp_book.proofs.book.Book.find_near.Goals as goal

pub returns-clause-place : goal.returns-clause-place
returns-clause-place c =
    c.find_near.ensures.place
    ∙ place_of_item c.args.item c.self.inside.places c.self.inside.items.items c.self.invariant.names_are
    ∙ ap (λ (f : Figures). position (λ g. g.item.0 == c.args.item.0) f.items) c.self.view_is
