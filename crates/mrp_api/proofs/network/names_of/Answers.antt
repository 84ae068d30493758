use Rattle.std.proofs.Common.{arith}
use Rattle.mrp_api.proofs.NameFacts.{called-next}
use Rattle.mrp_api.proofs.network.names_of.Goals as goal

pub pairs-preserved : goal.pairs-preserved
pairs-preserved c =
    rw c.in_ok-push.ensures.items
    (called-next c.args.network.now c.args.pairs.now _ c.pairs.x-index _ _ (omega arith) c.pairs.invariant c.in_ok-name_of.ensures)
