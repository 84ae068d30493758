use Rattle.mrp_api.proofs.OneReport.{one_report}
use Rattle.mrp_api.proofs.laws.reports_are_one.Goals as goal

pub returns : goal.returns
returns c = one_report
