use Rattle.std.proofs.Common.{rules}
use Rattle.mrp_plant_view.proofs.viewing.call_on.Goals as goal

pub returns-in-Despatch : goal.returns-in-Despatch
returns-in-Despatch c = search rules
