use Rattle.std.proofs.Common.{rules}
use Rattle.mrp_lane.proofs.tally.Tally.of.Goals as goal

pub returns : goal.returns
returns c = search rules
