use Rattle.mrp_plan.proofs.Listing.{firm_orders_are_listed, late_orders_are_planned, no_firm_orders, planned_orders_are_listed}
use Rattle.mrp_plan.proofs.laws.orders_are_listed.Goals as goal

pub returns-clause-firm : goal.returns-clause-firm
returns-clause-firm c = firm_orders_are_listed

pub returns-clause-planned : goal.returns-clause-planned
returns-clause-planned c = planned_orders_are_listed

pub returns-clause-late : goal.returns-clause-late
returns-clause-late c = late_orders_are_planned

pub returns-clause-none_firm : goal.returns-clause-none_firm
returns-clause-none_firm c = no_firm_orders
