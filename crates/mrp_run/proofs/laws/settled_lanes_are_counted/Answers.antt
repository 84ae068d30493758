use Rattle.mrp_run.proofs.PairedSettled.{settled_lanes_are_counted}
use Rattle.mrp_run.proofs.laws.settled_lanes_are_counted.Goals as goal

pub returns : goal.returns
returns c = settled_lanes_are_counted
