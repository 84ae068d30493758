use Rattle.mrp_run.proofs.JoinedNetwork.{outcome_if}
use Rattle.mrp_run.proofs.network.plan_network.Goals as goal

pub returns-clause-outcome : goal.returns-clause-outcome
returns-clause-outcome g c = outcome_if c.args.net.now.network c.run_to.result c.run_to.ensures.outcome
