use Rattle.mrp_schedules.proofs.SheetFacts.{schedules_are_read}
use Rattle.mrp_schedules.proofs.laws.schedules_are_read_back.Goals as goal

pub returns : goal.returns
returns c = schedules_are_read
