use Rattle.mrp_net.proofs.Sharing.{pairs_are_found}
use Rattle.mrp_net.proofs.laws.pairs_are_found.Goals as goal

pub returns : goal.returns
returns c = pairs_are_found
