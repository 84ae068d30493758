use Rattle.mrp_world.proofs.Lasting as proved
use Rattle.mrp_world.proofs.laws.figures_are_of_lanes.Goals as goal

pub returns : goal.returns
returns c = proved.figures_are_of_lanes
