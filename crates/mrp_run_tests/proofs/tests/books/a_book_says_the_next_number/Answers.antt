use Rattle.std.proofs.Common.{arith}
use Rattle.std.proofs.lemmas.Map.Keys.{IsDistinct-from_apart}
use Rattle.mrp_run_tests.proofs.tests.books.a_book_says_the_next_number.Goals as goal

pub new-requires-2 : goal.new-requires-2
new-requires-2 c = λ at. record { once = IsDistinct-from_apart _ _ (λ i j d lt within. absurd (omega arith)) }
