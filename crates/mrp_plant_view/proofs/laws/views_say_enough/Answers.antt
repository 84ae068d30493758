use Rattle.mrp_plant_view.proofs.Views as proved
use Rattle.mrp_plant_view.proofs.laws.views_say_enough.Goals as goal

pub returns : goal.returns
returns c = proved.views_say_enough
