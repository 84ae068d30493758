use Rattle.mrp_net.proofs.Local.{source_pairs_are_there}
use Rattle.mrp_net.proofs.laws.source_pairs_are_there.Goals as goal

pub returns : goal.returns
returns c = source_pairs_are_there
