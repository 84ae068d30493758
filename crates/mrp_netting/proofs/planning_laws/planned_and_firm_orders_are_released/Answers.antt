use Rattle.mrp_netting.proofs.DataRows.{orders_are_all_released, releases_stay_bounded}
use Rattle.mrp_netting.proofs.planning_laws.planned_and_firm_orders_are_released.Goals as goal

pub returns-clause-all : goal.returns-clause-all
returns-clause-all c = orders_are_all_released

pub returns-clause-bounded : goal.returns-clause-bounded
returns-clause-bounded c = releases_stay_bounded
