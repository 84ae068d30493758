use Rattle.std.proofs.Common.{rules}
use Rattle.mrp_api.proofs.fault.status.Goals as goal

pub returns-in_default : goal.returns-in_default
returns-in_default c = search rules
