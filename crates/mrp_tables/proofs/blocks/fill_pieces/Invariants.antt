use Rattle.std.proofs.Common.{take}
use Rattle.std.specs.Io.KnownBytes.{Consumes}
use Rattle.mrp_tables.specs.Pieces.{texts_of}
use Rattle.mrp_tables.specs.Sources.{left_of}
use Rattle.mrp_tables.proofs.blocks.fill_pieces.Given as goal

-- the pieces so far have the bytes that were taken
abbrev pub invariant-loop-k : goal.invariant-loop-k
invariant-loop-k g l = Consumes (left_of g.R.Read.remaining l.fn.source) (left_of g.R.Read.remaining l.source) (texts_of (take l.k l.pieces))
