use Rattle.mrp_world.proofs.Lasting as proved
use Rattle.mrp_world.proofs.laws.finished_figures_are_last.Goals as goal

pub returns : goal.returns
returns c = proved.finished_figures_are_last
