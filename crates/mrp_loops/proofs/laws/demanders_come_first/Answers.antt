use Rattle.mrp_loops.proofs.Coded.{codes_exist}
use Rattle.mrp_loops.proofs.Ordered.{planning_order}
use Rattle.mrp_loops.proofs.Planning.{code_order_plans}
use Rattle.mrp_loops.proofs.laws.demanders_come_first.Goals as goal

pub returns-clause-codes : goal.returns-clause-codes
returns-clause-codes c = λ N codes table are. code_order_plans N codes table are

pub returns-clause-exist : goal.returns-clause-exist
returns-clause-exist c = λ N table free. let codes = codes_exist N table free in planning_order N codes.0 table codes.1
