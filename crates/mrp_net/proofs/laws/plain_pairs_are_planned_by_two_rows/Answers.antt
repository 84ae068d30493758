use Rattle.mrp_net.proofs.Firms.{plain_pairs}
use Rattle.mrp_net.proofs.laws.plain_pairs_are_planned_by_two_rows.Goals as goal

pub returns : goal.returns
returns c = plain_pairs
