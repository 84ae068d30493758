use Rattle.std.proofs.Common.{rules}
use Rattle.mrp_master_data.specs.Parsing.{numbered_rule}
use Rattle.mrp_master_data.proofs.spelled_rules.numbered_rule.Goals as goal

pub returns-in_err-number_within-clause-exact : goal.returns-in_err-number_within-clause-exact
unfolding numbered_rule
returns-in_err-number_within-clause-exact c = search rules

pub returns-in_ok-number_within-clause-exact : goal.returns-in_ok-number_within-clause-exact
unfolding numbered_rule
returns-in_ok-number_within-clause-exact c = search rules

pub returns-else-eq-3-clause-exact : goal.returns-else-eq-3-clause-exact
unfolding numbered_rule
returns-else-eq-3-clause-exact c = search rules

pub returns-then-eq-3-clause-rule : goal.returns-then-eq-3-clause-rule
returns-then-eq-3-clause-rule c = c.min_rule.ensures.rule c.args.longest
