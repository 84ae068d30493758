use Rattle.mrp_plant_view.proofs.Views.{views_have_lanes_in, views_have_lanes_out}
use Rattle.mrp_plant_view.proofs.laws.views_have_their_lanes.Goals as goal

pub returns-clause-incoming : goal.returns-clause-incoming
returns-clause-incoming c = views_have_lanes_in

pub returns-clause-outgoing : goal.returns-clause-outgoing
returns-clause-outgoing c = views_have_lanes_out
