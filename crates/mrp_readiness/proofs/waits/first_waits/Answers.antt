use borrow.Author.Rules.{rules}
use Rattle.std.proofs.Common.{arith}
use Rattle.std.proofs.lemmas.Grind.{common_steps}
use Rattle.mrp_readiness.proofs.waits.first_waits.Goals as goal

pub returns-in_err-waits-clause-size : goal.returns-in_err-waits-clause-size
returns-in_err-waits-clause-size c = search rules

pub returns-in_err-waits-clause-counts : goal.returns-in_err-waits-clause-counts
returns-in_err-waits-clause-counts c = search rules

pub count_joins-requires-clause-few : goal.count_joins-requires-clause-few
count_joins-requires-clause-few c = grind (arith, common_steps)

pub count_blocks-requires-clause-few : goal.count_blocks-requires-clause-few
count_blocks-requires-clause-few c = grind (arith, common_steps)

pub returns-clause-size : goal.returns-clause-size
returns-clause-size c = grind (arith, common_steps)

pub returns-clause-counts : goal.returns-clause-counts
returns-clause-counts c = grind (arith, common_steps)
