use Rattle.std.proofs.Common.{◌≡◌, drop}
use Rattle.mrp_tables.specs.Keys.{word_of}
use Rattle.mrp_tables.proofs.name_key.word_of.Given as goal

abbrev pub invariant-loop-i : goal.invariant-loop-i
invariant-loop-i l = l.word ≡ word_of (drop l.i l.bytes)
