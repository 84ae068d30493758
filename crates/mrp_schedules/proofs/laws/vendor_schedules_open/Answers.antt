use Rattle.std.proofs.Common.{refl}
use Rattle.mrp_schedules.proofs.laws.vendor_schedules_open.Goals as goal

pub returns : goal.returns
returns c = λ N v. (_, refl)
