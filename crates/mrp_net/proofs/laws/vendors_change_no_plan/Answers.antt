use Rattle.mrp_net.proofs.Vendors.{vendors_change_no_plan, vendors_change_no_edge, vendors_change_no_lane}
use Rattle.mrp_net.proofs.laws.vendors_change_no_plan.Goals as goal

pub returns-clause-plans : goal.returns-clause-plans
returns-clause-plans c = vendors_change_no_plan

pub returns-clause-edges : goal.returns-clause-edges
returns-clause-edges c = vendors_change_no_edge

pub returns-clause-lanes : goal.returns-clause-lanes
returns-clause-lanes c = vendors_change_no_lane
