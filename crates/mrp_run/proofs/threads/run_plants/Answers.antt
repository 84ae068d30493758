use Rattle.mrp_run.proofs.JoinedThreads.{back_each, back_length}
use Rattle.mrp_run.proofs.threads.run_plants.Goals as goal

pub returns-clause-all : goal.returns-clause-all
returns-clause-all g c = back_length c.args.plants.items c.run_until.result c.run_until.ensures.each

pub returns-clause-each : goal.returns-clause-each
returns-clause-each g c = back_each c.args.plants.items c.run_until.result c.run_until.ensures.each
