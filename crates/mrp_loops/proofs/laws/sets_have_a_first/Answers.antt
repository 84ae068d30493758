use Rattle.mrp_loops.proofs.Upstream.{sets_have_a_first}
use Rattle.mrp_loops.proofs.laws.sets_have_a_first.Goals as goal

pub returns : goal.returns
returns c = sets_have_a_first
