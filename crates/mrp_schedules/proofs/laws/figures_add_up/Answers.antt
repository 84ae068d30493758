use Rattle.mrp_schedules.proofs.Carried as proved
use Rattle.mrp_schedules.proofs.laws.figures_add_up.Goals as goal

pub returns : goal.returns
returns c = proved.figures_add_up
