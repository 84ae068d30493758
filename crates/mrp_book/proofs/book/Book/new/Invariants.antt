use Rattle.mrp_book.proofs.Opening.{AreOpened}
use Rattle.mrp_book.proofs.book.Book.new.Given as goal

abbrev pub invariant-loop-item : goal.invariant-loop-item
invariant-loop-item l = AreOpened l.item-index l.items l.places l.figures.items
