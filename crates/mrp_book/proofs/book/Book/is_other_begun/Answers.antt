use Rattle.std.proofs.Common.{rules}
use Rattle.mrp_book.proofs.book.Book.is_other_begun.Goals as goal

pub returns-in-Some : goal.returns-in-Some
returns-in-Some c = search rules
