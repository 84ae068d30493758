use Rattle.mrp_lane.proofs.Rule.{untaken}
use Rattle.mrp_lane.proofs.send.is_full.Goals as goal

pub is_full_as-requires-clause-rule : goal.is_full_as-requires-clause-rule
is_full_as-requires-clause-rule c = untaken _ _ c.requires.sends
