use Rattle.std.proofs.Common.{Some, ◌+◌, ap, ◌∙◌}
use Rattle.mrp_book.specs.declared.item.ItemFigure.{ItemFigure}
use Rattle.mrp_book.proofs.Showing.{shown_none, shown_some}
use Rattle.mrp_book.proofs.book.Book.cumulative_near.Goals as goal

pub returns-in-Some : goal.returns-in-Some
returns-in-Some c = λ form records s. ap Some c.of.ensures ∙ shown_some
    (λ (i : ItemFigure). i.figure + i.closed) form records _ c.args.self.now c.args.item.0 c.in-Some.place c.index-known.result.now c.self.view_is
    c.in-Some.ensures.place c.in-Some.ensures.within c.index-known.ensures s

pub returns-in-None : goal.returns-in-None
returns-in-None c = λ form records s. shown_none (λ (i : ItemFigure). i.figure + i.closed) form records c.args.self.now c.args.item.0 c.in-None.ensures.place s
