use Rattle.std.proofs.Common.{◌≡◌, ◌∷◌, codes, map, take}
use Rattle.std.specs.String.{string_bytes}
use Rattle.mrp_command_line.proofs.named.named_words.Given as goal

-- the words are the program's name and the arguments before this one
abbrev pub invariant-given : goal.invariant-given
invariant-given l = map (λ word. word.now) l.words.items ≡ codes "mrp" ∷ map string_bytes (take l.argument-index l.arguments)
