use Rattle.std.proofs.Common.{rules}
use Rattle.mrp_run.proofs.stop.Stop.fault.Goals as goal

pub returns-in-Some : goal.returns-in-Some
returns-in-Some g c = search rules
