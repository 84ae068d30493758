use Rattle.std.proofs.Common.{rules}
use Rattle.mrp_api.proofs.ending.ended.Goals as goal

pub returns-clause-status : goal.returns-clause-status
returns-clause-status g c = search rules
