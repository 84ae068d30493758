use Rattle.mrp_book.proofs.book.Book.cumulative.Goals as goal

pub returns : goal.returns
returns c = c.cumulative_near.ensures
