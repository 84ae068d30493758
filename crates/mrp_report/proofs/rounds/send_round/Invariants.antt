use Rattle.std.proofs.Common.{take}
use Rattle.std.specs.List.{concat}
use Rattle.std.specs.Io.KnownBytes.{Appends}
use Rattle.mrp_report.proofs.rounds.send_round.Given as goal

-- the pieces so far are sent
abbrev pub invariant-pieces : goal.invariant-pieces
invariant-pieces g l = Appends (g.W.Write.contents l.initial.out) (g.W.Write.contents l.out) (concat (take l.piece-index l.pieces))
