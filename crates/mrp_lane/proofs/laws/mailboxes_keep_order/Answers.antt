use Rattle.mrp_lane.proofs.Rule as rule
use Rattle.mrp_lane.proofs.laws.mailboxes_keep_order.Goals as goal

pub returns : goal.returns
returns c = rule.mailboxes_keep_order
