use Rattle.std.proofs.Common.{◌∙◌, List, map, sym, ap, subst}
use Rattle.std.specs.List.{IsDistinct}
use Rattle.mrp_plant_view.specs.declared.view.IncomingItem.{IncomingItem}
use Rattle.mrp_book.specs.declared.item.BookItem.{BookItem}
use Rattle.mrp_book.specs.Figures.{is_same_book_item}
use Rattle.mrp_agent.specs.Shows.{book_item}
use Rattle.mrp_agent.proofs.Made.{books_once}
use Rattle.mrp_agent.proofs.making.new_book.Goals as goal

pub new-requires : goal.new-requires
new-requires c =
    let items = c.deref.ensures.value ∙ c.in_ok-items.ensures ∙ ap (λ (z : List IncomingItem). map book_item z) c.as_slice.ensures in
    record { once = subst (λ (z : List BookItem). IsDistinct is_same_book_item z) (sym items) (books_once c.args.lane.now.items c.requires.lane.once) }
