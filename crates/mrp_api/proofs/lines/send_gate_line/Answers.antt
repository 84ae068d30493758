use Rattle.mrp_api.specs.Lines.{gate_line}
use Rattle.mrp_api.proofs.lines.send_gate_line.Goals as goal

pub returns : goal.returns
unfolding gate_line
returns g c = rw (← c.as_bytes.ensures.value) c.send_all.ensures
