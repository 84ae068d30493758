use Rattle.std.proofs.Common.{◌≡◌, drop}
use Rattle.std.specs.Str.{bytes_eq}
use Rattle.mrp_master_data.proofs.texts.is_same_text.Given as goal

abbrev pub invariant-loop-i : goal.invariant-loop-i
invariant-loop-i l = bytes_eq (drop l.i l.text) (drop l.i l.other) ≡ bytes_eq l.initial.text l.initial.other
