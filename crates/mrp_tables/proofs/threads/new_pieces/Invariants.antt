use Rattle.std.proofs.Common.{◌≡◌, length}
use Rattle.mrp_tables.proofs.threads.new_pieces.Given as goal

abbrev pub invariant-pieces : goal.invariant-pieces
invariant-pieces l = length l.pieces.items ≡ l.counter
