use Rattle.mrp_protocol.proofs.Finishing as proved
use Rattle.mrp_protocol.proofs.run_laws.no_schedule_sticks.Goals as goal

pub returns-clause-sticks : goal.returns-clause-sticks
returns-clause-sticks c = proved.no_schedule_sticks

pub returns-clause-left : goal.returns-clause-left
returns-clause-left c = proved.events_and_steps_left

pub returns-clause-longest : goal.returns-clause-longest
returns-clause-longest c = proved.longest_runs_finish
