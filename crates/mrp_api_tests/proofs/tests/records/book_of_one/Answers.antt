use Rattle.std.proofs.Common.{arith}
use Rattle.std.proofs.lemmas.Map.Keys.{IsDistinct-from_apart}
use Rattle.mrp_api_tests.proofs.tests.records.book_of_one.Goals as goal

pub new-requires-2 : goal.new-requires-2
new-requires-2 c = record { once = IsDistinct-from_apart _ _ (λ i j d lt within. absurd (omega arith)) }
