use Rattle.mrp_api.proofs.OneReport.{cut_tables_are_one, no_other_report}
use Rattle.mrp_api.proofs.laws.cut_tables_are_refused_or_whole.Goals as goal

pub returns-clause-tables : goal.returns-clause-tables
returns-clause-tables c = cut_tables_are_one

pub returns-clause-reports : goal.returns-clause-reports
returns-clause-reports c = no_other_report
