use Rattle.std.proofs.Common.{arith}
use Rattle.std.proofs.lemmas.Grind.{common_steps}
use Rattle.mrp_plant_view.proofs.lists.Lists.at.Goals as goal

pub returns : goal.returns
returns c = grind (arith, common_steps)
