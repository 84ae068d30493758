use Rattle.mrp_report.proofs.SheetFacts.{code_is_read, lane_is_read, late_is_read, order_is_read, peg_is_read, pegs_is_read, plan_is_read, together_is_read}
use Rattle.mrp_report.proofs.laws.reports_are_read_back.Goals as goal

pub returns-clause-plan : goal.returns-clause-plan
returns-clause-plan c = plan_is_read

pub returns-clause-late : goal.returns-clause-late
returns-clause-late c = late_is_read

pub returns-clause-together : goal.returns-clause-together
returns-clause-together c = together_is_read

pub returns-clause-pegs : goal.returns-clause-pegs
returns-clause-pegs c = peg_is_read

pub returns-clause-pegging : goal.returns-clause-pegging
returns-clause-pegging c = pegs_is_read

pub returns-clause-codes : goal.returns-clause-codes
returns-clause-codes c = code_is_read

pub returns-clause-lanes : goal.returns-clause-lanes
returns-clause-lanes c = lane_is_read

pub returns-clause-orders : goal.returns-clause-orders
returns-clause-orders c = order_is_read
