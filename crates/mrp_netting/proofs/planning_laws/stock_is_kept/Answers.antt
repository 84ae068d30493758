use Rattle.mrp_netting.proofs.DataRows.{stock_is_kept, stock_is_kept_in_all}
use Rattle.mrp_netting.proofs.planning_laws.stock_is_kept.Goals as goal

pub returns-clause-each : goal.returns-clause-each
returns-clause-each c = stock_is_kept

pub returns-clause-all : goal.returns-clause-all
returns-clause-all c = stock_is_kept_in_all
