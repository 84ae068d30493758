use Rattle.mrp_protocol.proofs.Deciding as proved
use Rattle.mrp_protocol.proofs.run_laws.every_list_runs.Goals as goal

pub returns-clause-decided : goal.returns-clause-decided
returns-clause-decided c = proved.events_are_decided

pub returns-clause-runs : goal.returns-clause-runs
returns-clause-runs c = proved.every_list_runs
