use Rattle.std.proofs.Common.{Bool, Option, false, ap}
use Rattle.std.specs.Prelude.{unwrap_or}
use Rattle.mrp_book.specs.declared.item.ItemFigure.{ItemFigure}
use Rattle.mrp_book.proofs.Showing.{shown_none, shown_some}
use Rattle.mrp_book.proofs.book.Book.ended.Goals as goal

pub returns-in-Some : goal.returns-in-Some
returns-in-Some c = λ form records s. ap (λ (o : Option Bool). unwrap_or o false)
    (shown_some (λ (i : ItemFigure). i.ended) form records _ c.args.self.now c.args.item.0 c.in-Some.place c.index-known.result.now c.self.view_is
    c.in-Some.ensures.place c.in-Some.ensures.within c.index-known.ensures s)

pub returns-in-None : goal.returns-in-None
returns-in-None c = λ form records s. ap (λ (o : Option Bool). unwrap_or o false)
    (shown_none (λ (i : ItemFigure). i.ended) form records c.args.self.now c.args.item.0 c.in-None.ensures.place s)
