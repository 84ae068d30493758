use Rattle.std.proofs.Common.{◌∙◌, ap, sym}
use Rattle.mrp_qty.specs.declared.limits.Limits.{Limits}
use Rattle.mrp_qty.specs.Limits.{limits_of}
use Rattle.mrp_master_data.specs.Parsing.{rule_of}
use Rattle.mrp_master_data.proofs.LimitFacts.{periods_short}
use Rattle.mrp_master_data.proofs.RuleTexts.{rule_exact}
use Rattle.mrp_master_data.proofs.spelled_rules.rule_within.Goals as goal

pub returns-clause-written : goal.returns-clause-written
returns-clause-written c =
    rule_exact (limits_of c.args.limits).periods c.args.text.now c.read.result (periods_short c.args.limits)
    (ap (λ (l : Limits). rule_of l.periods c.args.text.now) (sym c.limits.ensures) ∙ sym c.read.ensures.exact)
