use Rattle.mrp_schedules.proofs.Released as proved
use Rattle.mrp_schedules.proofs.laws.vendor_calls_are_released.Goals as goal

pub returns : goal.returns
returns c = proved.vendor_calls_are_released
