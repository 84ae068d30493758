use Rattle.std.proofs.Common.{rules}
use Rattle.mrp_plant_view.proofs.frame.PlantFrame.incoming.Goals as goal

pub returns : goal.returns
returns c = search rules
