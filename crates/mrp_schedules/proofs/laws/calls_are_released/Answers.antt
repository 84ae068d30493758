use Rattle.mrp_schedules.proofs.Released as proved
use Rattle.mrp_schedules.proofs.laws.calls_are_released.Goals as goal

pub returns : goal.returns
returns c = proved.calls_are_released
