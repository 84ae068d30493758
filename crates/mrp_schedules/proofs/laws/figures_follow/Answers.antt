use Rattle.mrp_schedules.proofs.Follow as proved
use Rattle.mrp_schedules.proofs.laws.figures_follow.Goals as goal

pub returns-clause-lanes : goal.returns-clause-lanes
returns-clause-lanes c = proved.lane_figures_follow

pub returns-clause-vendors : goal.returns-clause-vendors
returns-clause-vendors c = proved.vendor_figures_follow
