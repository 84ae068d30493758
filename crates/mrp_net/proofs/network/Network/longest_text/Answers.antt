use Rattle.std.proofs.Common.{rules, ◌+◌, ◌≤◌, List, length, get_or, arith, ap}
use Rattle.std.proofs.lemmas.List.Sums.{sum_by_more}
use Rattle.mrp_qty.specs.declared.limits.TheConstants.{MOST_OF_A_KIND, MOST_SOURCES}
use Rattle.mrp_master_data.specs.declared.numbers.ItemNo.{ItemNo}
use Rattle.mrp_net.specs.declared.lane.Lane.{Lane}
use Rattle.mrp_net.specs.Lanes.{lane_at}
use Rattle.mrp_net.specs.Texts.{longest_block}
use Rattle.mrp_net.proofs.Lengths.{block_is_short, lane_items_are_few}
use Rattle.mrp_net.proofs.network.Network.longest_text.Goals as goal

pub overflow_add-records : goal.overflow_add-records
overflow_add-records c =
    let M = c.args.self.now in
    let lane : Lane = lane_at M c.args.l.0 in
    let item : ItemNo = get_or c.lane_items-item-items.result.now c.loop-item.item-index (record { 0 = 0 }) in
    let few : length c.lane_items-item-items.result.now ≤ MOST_SOURCES =
    omega (arith, ap length c.lane_items-item-items.ensures.value, lane_items_are_few M lane c.pairs-pairs.ensures.table) in
    let short : c.longest_block-records.result ≤ MOST_OF_A_KIND + 2 = omega
    (arith, c.longest_block-records.ensures, block_is_short M lane item c.pairs-pairs.ensures.table) in
    omega (arith, few, short, c.loop-item.invariant.few, c.loop-item-test.true)

pub loop-item-preserved : goal.loop-item-preserved
loop-item-preserved c =
    let M = c.args.self.now in
    let lane : Lane = lane_at M c.args.l.0 in
    let items : List ItemNo = c.lane_items-item-items.result.now in
    let item : ItemNo = get_or items c.loop-item.item-index (record { 0 = 0 }) in
    let short : c.longest_block-records.result ≤ MOST_OF_A_KIND + 2 = omega
    (arith, c.longest_block-records.ensures, block_is_short M lane item c.pairs-pairs.ensures.table) in
    record {
      sum = omega (
        arith,
        c.loop-item.invariant.sum,
        c.longest_block-records.ensures,
        sum_by_more (longest_block M lane) items c.loop-item.item-index
            (record { 0 = 0 }) c.loop-item-test.true,
      );
      few = omega (arith, c.loop-item.invariant.few, short);
    }

pub loop-item-init : goal.loop-item-init
loop-item-init c = search rules
