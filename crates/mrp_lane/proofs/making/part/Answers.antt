use Rattle.mrp_lane.proofs.Rule.{parts}
use Rattle.mrp_lane.proofs.making.part.Goals as goal

pub another-requires-clause-rule : goal.another-requires-clause-rule
another-requires-clause-rule g c = parts _ _ _ _ c.requires.first
