use Rattle.mrp_loops.proofs.Upstream.{demanders_decide}
use Rattle.mrp_loops.proofs.laws.demanders_decide.Goals as goal

pub returns : goal.returns
returns c = demanders_decide
