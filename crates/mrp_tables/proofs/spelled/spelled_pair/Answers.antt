use Rattle.std.proofs.Common.{◌≡◌, ◌≤◌, Option, Some, None, Result, Ok, ok_or, IfSome, subst, sym}
use Rattle.mrp_lot.specs.Lot.{IsRuleWithin}
use Rattle.mrp_qty.specs.Limits.{limits_of}
use Rattle.mrp_validation.proofs.KeepingSteps.{handed_on, same_Ok}
use Rattle.mrp_tables.proofs.spelled.spelled_pair.Goals as goal
use Rattle.mrp_qty.specs.declared.limits.Limits.{Limits}

of_ok : {A E : Type 0} (o : Option A) (e : E) (x : A) (P : A → Type 0) → ◌≡◌ {A = Result A E} (Ok x) (ok_or o e) → IfSome o P → P x
of_ok (Some y) e x P is holds = subst P (sym (same_Ok x y is)) holds
of_ok None e x P is holds = absurd (cc)

pub returns-in_err-plant-clause-ranges : goal.returns-in_err-plant-clause-ranges
returns-in_err-plant-clause-ranges c = rw (handed_on c.from_residual.result _ c.from_residual.ensures.1) tt

pub returns-in_err-item-clause-ranges : goal.returns-in_err-item-clause-ranges
returns-in_err-item-clause-ranges c = rw (handed_on c.from_residual-in_err-item.result _ c.from_residual-in_err-item.ensures.1) tt

pub returns-in_err-lead-clause-ranges : goal.returns-in_err-lead-clause-ranges
returns-in_err-lead-clause-ranges c = rw (handed_on c.from_residual-in_err-lead.result _ c.from_residual-in_err-lead.ensures.1) tt

pub returns-in_err-on_hand-clause-ranges : goal.returns-in_err-on_hand-clause-ranges
returns-in_err-on_hand-clause-ranges c = rw (handed_on c.from_residual-in_err-on_hand.result _ c.from_residual-in_err-on_hand.ensures.1) tt

pub returns-in_err-safety-clause-ranges : goal.returns-in_err-safety-clause-ranges
returns-in_err-safety-clause-ranges c = rw (handed_on c.from_residual-in_err-safety.result _ c.from_residual-in_err-safety.ensures.1) tt

pub returns-in_err-rule-clause-ranges : goal.returns-in_err-rule-clause-ranges
returns-in_err-rule-clause-ranges c = rw (handed_on c.from_residual-in_err-rule.result _ c.from_residual-in_err-rule.ensures.1) tt

pub returns-clause-ranges : goal.returns-clause-ranges
returns-clause-ranges c = record {
  item = c.in_ok-item.ensures.named;
  supply = c.in_ok-supply.ensures.sources;
  rule = of_ok c.rule_within.result _ _ (IsRuleWithin (limits_of c.args.limits).periods) c.in_ok-rule.ensures.value c.rule_within.ensures.rule;
  lead = subst (λ (l : Limits). c.in_ok-lead.lead ≤ l.lead) c.limits.ensures c.in_ok-lead.ensures.within.1;
  on_hand = c.in_ok-on_hand.ensures.within.1;
  safety = c.in_ok-safety.ensures.within.1;
}
