use Rattle.mrp_net.specs.Sums.{received}
use Rattle.mrp_net.proofs.Summing.{row_read}
use Rattle.mrp_net.proofs.network.Network.received_row.Goals as goal

pub returns : goal.returns
returns c =
    row_read _ c.args.self.now received c.self.inside.amounts.received.items c.deref.result.now c.args.x.0 c.places_of.result.start c.places_of.result.end
    c.self.view_is
    c.self.invariant.amounts.receipts c.places_of.ensures.start c.places_of.ensures.end c.requires c.deref.ensures.value
