use Rattle.mrp_api.specs.Lines.{loop_word}
use Rattle.mrp_api.proofs.lines.send_loop_word.Goals as goal

pub returns : goal.returns
unfolding loop_word
returns g c = rw (← c.as_bytes.ensures.value, ← c.as_bytes-2.ensures.value) c.send_all.ensures
