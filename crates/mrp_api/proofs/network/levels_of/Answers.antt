use Rattle.mrp_api.proofs.LoopNames.{found_pairs}
use Rattle.mrp_api.proofs.network.levels_of.Goals as goal

pub loop_fault-requires : goal.loop_fault-requires
loop_fault-requires c = record { pairs = found_pairs c.args.network.now c.pairs-pairs.ensures.table c.in-Err.fault c.in-Err.ensures.fault }
