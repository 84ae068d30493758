use Rattle.std.proofs.Common.{rules}
use Rattle.mrp_book.proofs.book.Book.check_number.Goals as goal

pub returns : goal.returns
returns c = search rules
