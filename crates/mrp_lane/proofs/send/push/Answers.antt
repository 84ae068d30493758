use Rattle.mrp_lane.proofs.Rule.{sends, untaken}
use Rattle.mrp_lane.proofs.send.push.Goals as goal

pub push_as-requires-clause-rule : goal.push_as-requires-clause-rule
push_as-requires-clause-rule g c = (sends _ _ _ _ _ c.requires.sends c.requires.named c.requires.legal, untaken _ _ c.requires.sends)
