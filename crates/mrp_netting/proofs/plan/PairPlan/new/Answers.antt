use Rattle.std.proofs.Common.{rules, arith}
use Rattle.std.proofs.lemmas.Grind.{common_steps}
use Rattle.mrp_netting.proofs.plan.PairPlan.new.Goals as goal

pub returns-in_err-gross : goal.returns-in_err-gross
returns-in_err-gross c = search rules

pub returns-in_err-incoming : goal.returns-in_err-incoming
returns-in_err-incoming c = search rules

pub returns-in_err-order : goal.returns-in_err-order
returns-in_err-order c = search rules

pub returns-in_err-release : goal.returns-in_err-release
returns-in_err-release c = search rules

pub returns-in_err-available : goal.returns-in_err-available
returns-in_err-available c = search rules

pub returns-in_err-late : goal.returns-in_err-late
returns-in_err-late c = search rules

pub invariant_of-result : goal.invariant_of-result
invariant_of-result c = grind (arith, common_steps)

pub returns : goal.returns
returns c = search rules
