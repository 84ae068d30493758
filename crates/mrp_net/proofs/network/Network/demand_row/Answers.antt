use Rattle.mrp_net.specs.Sums.{demand}
use Rattle.mrp_net.proofs.Summing.{row_read}
use Rattle.mrp_net.proofs.network.Network.demand_row.Goals as goal

pub returns : goal.returns
returns c =
    row_read _ c.args.self.now demand c.self.inside.amounts.demand.items c.deref.result.now c.args.x.0 c.places_of.result.start c.places_of.result.end
    c.self.view_is
    c.self.invariant.amounts.demanded c.places_of.ensures.start c.places_of.ensures.end c.requires c.deref.ensures.value
