use Rattle.mrp_netting.proofs.PlainLaws.{plain_is_today, plain_follows_rules}
use Rattle.mrp_netting.proofs.planning_laws.plain_pairs_are_planned_from_two_rows.Goals as goal

pub returns-clause-same : goal.returns-clause-same
returns-clause-same c = plain_is_today

pub returns-clause-rules : goal.returns-clause-rules
returns-clause-rules c = plain_follows_rules
