use Rattle.std.proofs.Common.{rules}
use Rattle.mrp_run.proofs.running.run_plant.Goals as goal

pub returns-clause-kept : goal.returns-clause-kept
returns-clause-kept g c = search rules

pub returns-clause-finished : goal.returns-clause-finished
returns-clause-finished g c = search rules
