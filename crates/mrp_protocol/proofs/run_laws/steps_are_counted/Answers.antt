use Rattle.mrp_protocol.proofs.Counting as proved
use Rattle.mrp_protocol.proofs.run_laws.steps_are_counted.Goals as goal

pub returns-clause-begin : goal.returns-clause-begin
returns-clause-begin c = proved.runs_begin_with_steps

pub returns-clause-events : goal.returns-clause-events
returns-clause-events c = proved.events_are_steps

pub returns-clause-end : goal.returns-clause-end
returns-clause-end c = proved.none_is_left_at_the_end
