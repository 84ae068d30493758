use Rattle.mrp_qty.specs.Limits.{limits_of}
use Rattle.mrp_master_data.proofs.LimitFacts.{periods_short}
use Rattle.mrp_master_data.proofs.Ranges.{rule_is}
use Rattle.mrp_master_data.proofs.RuleTexts.{rule_is_text, rule_written}
use Rattle.mrp_master_data.proofs.spelling_laws.rules_have_one_text.Goals as goal

pub returns : goal.returns
returns c = record {
  read = λ limits rule is. rule_written (limits_of limits).periods rule (periods_short limits) is;
  text = λ limits text rule is. (rule_is_text (limits_of limits).periods text rule is, rule_is (limits_of limits).periods text rule is);
}
