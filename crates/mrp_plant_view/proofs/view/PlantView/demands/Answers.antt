use Rattle.std.proofs.Common.{rules}
use Rattle.mrp_plant_view.proofs.view.PlantView.demands.Goals as goal

pub returns : goal.returns
returns c = search rules
