use Rattle.std.proofs.Common.{rules}
use Rattle.mrp_commands.proofs.laws.limits_are_numbers.Goals as goal

pub returns-clause-period : goal.returns-clause-period
returns-clause-period c = search rules

pub returns-clause-capacity : goal.returns-clause-capacity
returns-clause-capacity c = search rules

pub returns-clause-workers : goal.returns-clause-workers
returns-clause-workers c = search rules
