use Rattle.std.proofs.Common.{◌≡◌, length}
use Rattle.mrp_report.proofs.rounds.new_pieces.Given as goal

abbrev pub invariant-pieces : goal.invariant-pieces
invariant-pieces l = length l.pieces.items ≡ l.counter
