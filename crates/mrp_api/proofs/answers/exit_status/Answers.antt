use Rattle.std.proofs.Common.{rules}
use Rattle.mrp_api.proofs.answers.exit_status.Goals as goal

pub returns-in-Err : goal.returns-in-Err
returns-in-Err c = search rules
