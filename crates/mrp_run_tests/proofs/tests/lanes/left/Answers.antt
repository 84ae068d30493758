use Rattle.std.proofs.Common.{ℕ, List, get_or, sym, subst}
use Rattle.mrp_master_data.specs.declared.numbers.ItemNo.{ItemNo}
use Rattle.mrp_net.specs.Lanes.{lane_at}
use Rattle.mrp_record.specs.Next.{IsRemainder}
use Rattle.mrp_run_tests.specs.Feeding.{item_goods}
use Rattle.mrp_run_tests.proofs.tests.lanes.left.Goals as goal

pub returns : goal.returns
returns c =
    let N = c.args.network.now in
    let place : ℕ = c.in_ok-place.place in (
      place,
      sym c.in_ok-place.ensures.value,
      subst (λ (y : List ItemNo × ℕ). IsRemainder (item_goods N (lane_at N c.args.l.0) (get_or y.0 place (record { 0 = 0 }))) y.1 c.left_of.result)
          (λ j. (c.lane_items.ensures.value j, c.mark.ensures j)) c.left_of.ensures,
    )
