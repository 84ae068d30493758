use Rattle.std.proofs.Common.{rules}
use Rattle.mrp_tables.proofs.steps.Steps.tick.Goals as goal

pub returns : goal.returns
returns g c = search rules
