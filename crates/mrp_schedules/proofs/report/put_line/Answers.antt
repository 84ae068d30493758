use Rattle.std.proofs.Common.{rules}
use Rattle.mrp_schedules.specs.ScheduleRows.{schedule_line_row}
use Rattle.mrp_schedules.proofs.report.put_line.Goals as goal

pub returns-in-Opening-clause-row : goal.returns-in-Opening-clause-row
unfolding schedule_line_row
returns-in-Opening-clause-row c = search rules

pub returns-in-Call-clause-row : goal.returns-in-Call-clause-row
unfolding schedule_line_row
returns-in-Call-clause-row c = search rules

pub returns-in-Reset-clause-row : goal.returns-in-Reset-clause-row
unfolding schedule_line_row
returns-in-Reset-clause-row c = search rules
