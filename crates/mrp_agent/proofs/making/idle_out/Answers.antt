use Rattle.std.proofs.Common.{rules}
use Rattle.mrp_agent.proofs.making.idle_out.Goals as goal

pub returns-in-Despatch : goal.returns-in-Despatch
returns-in-Despatch c = search rules
