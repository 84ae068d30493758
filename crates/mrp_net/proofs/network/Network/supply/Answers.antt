use Rattle.mrp_net.specs.Built.{capped_supply}
use Rattle.mrp_net.proofs.Summing.{total_read}
use Rattle.mrp_net.proofs.network.Network.supply.Goals as goal

pub returns : goal.returns
returns c =
    total_read _ c.args.self.now capped_supply c.self.inside.amounts.supplies.items c.args.x.0 c.index.result.now c.self.view_is c.self.invariant.amounts.supplied c.requires
    c.index.ensures
