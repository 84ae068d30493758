use Rattle.std.proofs.Common.{take}
use Rattle.std.specs.List.{flat_map}
use Rattle.std.specs.Io.KnownBytes.{Appends}
use Rattle.mrp_api.proofs.lines.send_all.Given as goal

-- the pieces before this one were sent
abbrev pub invariant-pieces : goal.invariant-pieces
invariant-pieces g l = Appends (g.W.Write.contents l.initial.writer) (g.W.Write.contents l.writer) (flat_map (λ piece. piece.now) (take l.piece-index l.pieces))
