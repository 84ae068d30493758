use Rattle.mrp_api.specs.Lines.{row_line}
use Rattle.mrp_api.proofs.lines.send_row_line.Goals as goal

pub returns : goal.returns
unfolding row_line
returns g c = rw (← c.kind_word.ensures, ← c.format.ensures.text, ← c.as_bytes.ensures.value) c.send_all.ensures
