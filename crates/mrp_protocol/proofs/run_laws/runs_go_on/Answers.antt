use Rattle.mrp_protocol.proofs.Keeping as proved
use Rattle.mrp_protocol.proofs.run_laws.runs_go_on.Goals as goal

pub returns-clause-runs : goal.returns-clause-runs
returns-clause-runs c = proved.runs_go_on

pub returns-clause-opening : goal.returns-clause-opening
returns-clause-opening c = proved.opening_is_reached

pub returns-clause-next : goal.returns-clause-next
returns-clause-next c = proved.reached_goes_on
