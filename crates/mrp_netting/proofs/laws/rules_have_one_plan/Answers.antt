use Rattle.mrp_netting.proofs.RulesLaws.{plan-follows_rules, rules-have_one_plan}
use Rattle.mrp_netting.proofs.laws.rules_have_one_plan.Goals as goal

pub returns-clause-follows : goal.returns-clause-follows
returns-clause-follows c = plan-follows_rules

pub returns-clause-only : goal.returns-clause-only
returns-clause-only c = rules-have_one_plan
