use Rattle.std.proofs.Common.{rules}
use Rattle.mrp_run.proofs.network.run_network.Goals as goal

pub returns-clause-outcome : goal.returns-clause-outcome
returns-clause-outcome g c = search rules
