use Rattle.mrp_plant_view.proofs.OwnEdges.{views_have_parents, views_have_bills}
use Rattle.mrp_plant_view.proofs.laws.views_have_their_edges.Goals as goal

pub returns-clause-parents : goal.returns-clause-parents
returns-clause-parents c = views_have_parents

pub returns-clause-bills : goal.returns-clause-bills
returns-clause-bills c = views_have_bills
