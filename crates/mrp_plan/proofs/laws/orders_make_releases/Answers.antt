use Rattle.mrp_plan.proofs.Listing.{late_orders_are_listed, orders_make_releases}
use Rattle.mrp_plan.proofs.Ordering.{late_orders_are_orders, planned_orders_make_releases}
use Rattle.mrp_plan.proofs.laws.orders_make_releases.Goals as goal

pub returns-clause-releases : goal.returns-clause-releases
returns-clause-releases c = orders_make_releases

pub returns-clause-planned : goal.returns-clause-planned
returns-clause-planned c = planned_orders_make_releases

pub returns-clause-late : goal.returns-clause-late
returns-clause-late c = late_orders_are_orders

pub returns-clause-listed : goal.returns-clause-listed
returns-clause-listed c = late_orders_are_listed
