use Rattle.std.proofs.Common.{take}
use Rattle.std.specs.List.{flat_map}
use Rattle.std.specs.Io.KnownBytes.{Appends}
use Rattle.mrp_api.specs.Lines.{loop_word}
use Rattle.mrp_api.proofs.lines.send_loop_words.Given as goal

-- the pairs before this one were sent
abbrev pub invariant-pairs : goal.invariant-pairs
invariant-pairs g l = Appends (g.W.Write.contents l.initial.writer) (g.W.Write.contents l.writer) (flat_map loop_word (take l.pair-index l.pairs))
