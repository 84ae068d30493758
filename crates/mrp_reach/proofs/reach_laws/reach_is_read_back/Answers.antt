use Rattle.mrp_reach.proofs.SheetFacts.{reach_is_read}
use Rattle.mrp_reach.proofs.reach_laws.reach_is_read_back.Goals as goal

pub returns : goal.returns
returns c = reach_is_read
