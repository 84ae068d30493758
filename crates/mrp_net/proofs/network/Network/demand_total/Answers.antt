use Rattle.mrp_net.specs.Sums.{demand_total}
use Rattle.mrp_net.proofs.Summing.{total_read}
use Rattle.mrp_net.proofs.network.Network.demand_total.Goals as goal

pub returns : goal.returns
returns c =
    total_read _ c.args.self.now demand_total c.self.inside.amounts.demand_totals.items c.args.x.0 c.index.result.now c.self.view_is c.self.invariant.amounts.total c.requires
    c.index.ensures
