use Rattle.mrp_net.proofs.UsageRows.{last_rows_are_in_force, bills_are_in_force_before}
use Rattle.mrp_net.proofs.laws.usages_are_in_force.Goals as goal

pub returns-clause-rows : goal.returns-clause-rows
returns-clause-rows c = last_rows_are_in_force

pub returns-clause-bills : goal.returns-clause-bills
returns-clause-bills c = bills_are_in_force_before
