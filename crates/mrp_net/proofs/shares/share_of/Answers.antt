use Rattle.std.proofs.Common.{rules}
use Rattle.mrp_net.proofs.shares.share_of.Goals as goal

pub returns-clause-value : goal.returns-clause-value
returns-clause-value c = search rules
