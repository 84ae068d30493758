use Rattle.std.proofs.Common.{refl}
use Rattle.mrp_net.specs.Sums.{row_of}
use Rattle.mrp_plant_view.specs.View.{amount_of}
use Rattle.mrp_plant_view.proofs.PairRows.{rows_more, rows_whole}
use Rattle.mrp_plant_view.proofs.amounts.plant_amounts.Goals as goal

pub loop-pair-preserved : goal.loop-pair-preserved
loop-pair-preserved c =
    rows_more (λ p. row_of c.args.network.now (amount_of c.args.which c.args.network.now p.number.0)) c.args.pairs.now c.loop-pair.pair-index _ _ _ _
    c.loop-pair.invariant c.loop-pair-test.true c.pair-item.is refl c.in_ok-add_amounts.ensures

pub returns : goal.returns
returns c = rows_whole (λ p. row_of c.args.network.now (amount_of c.args.which c.args.network.now p.number.0)) c.args.pairs.now c.loop-pair.pair-index _
    c.loop-pair.invariant c.loop-pair-test.false
