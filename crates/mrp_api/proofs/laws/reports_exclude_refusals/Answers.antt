use Rattle.mrp_api.proofs.OneReport.{accepted_passes, requested_passes}
use Rattle.mrp_api.proofs.laws.reports_exclude_refusals.Goals as goal

pub returns-clause-choices : goal.returns-clause-choices
returns-clause-choices c = accepted_passes

pub returns-clause-requests : goal.returns-clause-requests
returns-clause-requests c = requested_passes
