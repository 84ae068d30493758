use Rattle.mrp_book.proofs.Meaning.{books_first}
use Rattle.mrp_book.proofs.Showing.{books_booked, books_refused}
use Rattle.mrp_book.proofs.book.Book.book.Goals as goal

pub returns-clause-booked : goal.returns-clause-booked
returns-clause-booked c = books_booked c.args.self.now c.book_exactly.new.self c.args.entry.now c.book_exactly.result c.book_exactly.ensures

pub returns-clause-refused : goal.returns-clause-refused
returns-clause-refused c = books_refused c.args.self.now c.book_exactly.new.self c.args.entry.now c.book_exactly.result c.book_exactly.ensures

pub returns-clause-first : goal.returns-clause-first
returns-clause-first c = books_first c.args.self.now c.book_exactly.new.self c.args.entry.now c.book_exactly.result c.book_exactly.ensures
