use Rattle.mrp_loops.proofs.OneWalk.{walked_loop_is_one}
use Rattle.mrp_loops.proofs.laws.walked_loop_is_one.Goals as goal

pub returns : goal.returns
returns c = walked_loop_is_one
