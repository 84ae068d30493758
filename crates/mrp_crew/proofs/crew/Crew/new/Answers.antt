use Rattle.std.proofs.Common.{rules}
use Rattle.mrp_crew.proofs.crew.Crew.new.Goals as goal

pub returns-clause-horizon : goal.returns-clause-horizon
returns-clause-horizon c = search rules
