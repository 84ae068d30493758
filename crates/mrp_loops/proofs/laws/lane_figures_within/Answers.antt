use Rattle.mrp_loops.proofs.Carried as carried
use Rattle.mrp_loops.proofs.laws.lane_figures_within.Goals as goal

pub returns : goal.returns
returns c = carried.lane_figures_within
