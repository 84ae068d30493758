use Rattle.std.proofs.Common.{rules}
use Rattle.mrp_readiness.proofs.readiness.Readiness.ready_pairs.Goals as goal

pub returns-clause-pairs : goal.returns-clause-pairs
returns-clause-pairs c = search rules
