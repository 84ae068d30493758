use Rattle.mrp_schedules.proofs.Carried as proved
use Rattle.mrp_schedules.proofs.laws.texts_carry_schedules.Goals as goal

pub returns : goal.returns
returns c = proved.texts_carry_schedules
