use Rattle.mrp_validation.proofs.OneWay.{one_calendar}
use Rattle.mrp_validation.proofs.laws.a_run_has_one_calendar.Goals as goal

pub returns : goal.returns
returns c = one_calendar
