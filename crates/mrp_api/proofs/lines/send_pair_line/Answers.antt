use Rattle.mrp_api.specs.Lines.{pair_line}
use Rattle.mrp_api.proofs.lines.send_pair_line.Goals as goal

pub returns : goal.returns
unfolding pair_line
returns g c = rw (← c.as_bytes.ensures.value, ← c.as_bytes-2.ensures.value) c.send_all.ensures
