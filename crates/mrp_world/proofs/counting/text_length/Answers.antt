use Rattle.std.proofs.Common.{◌≡◌, ◌+◌, ℕ, List, take, ap, ◌∙◌, arith}
use Rattle.std.specs.List.{sum_by}
use Rattle.std.proofs.lemmas.List.{take_all}
use Rattle.std.proofs.lemmas.List.Sums.{sum_by_more, sum_by_more_le}
use Rattle.mrp_master_data.specs.declared.numbers.ItemNo.{ItemNo}
use Rattle.mrp_net.specs.Lanes.{lane_at}
use Rattle.mrp_record.specs.Lengths.{block_length}
use Rattle.mrp_protocol.specs.Loads.{load_of}
use Rattle.mrp_world.proofs.Counts as count
use Rattle.mrp_world.proofs.counting.text_length.Goals as goal

pub overflow_add-records : goal.overflow_add-records
overflow_add-records c =
    let N = c.args.network.now in
    let lane = lane_at N c.args.lane.0 in
    let f : ItemNo → ℕ = λ item. block_length (load_of N lane item) in
    let items : List ItemNo = c.lane_items-item-items.result.now in
    let whole : sum_by f items + 1 ≡ count.text_of_lane N lane = ap (λ (xs : List ItemNo). sum_by f xs + 1) c.lane_items-item-items.ensures.value
    ∙ count.blocks_are_text N lane in
    omega (
      arith,
      whole,
      count.text_is_short N c.requires.sized.table c.args.lane.0 c.requires.lane,
      c.loop-item.invariant,
      c.block_length-records.ensures,
      sum_by_more_le f items c.loop-item.item-index (record { 0 = 0 }) c.loop-item-test.true,
    )

pub loop-item-preserved : goal.loop-item-preserved
loop-item-preserved c =
    let N = c.args.network.now in
    let f : ItemNo → ℕ = λ item. block_length (load_of N (lane_at N c.args.lane.0) item) in
    omega (
      arith,
      c.loop-item.invariant,
      c.block_length-records.ensures,
      sum_by_more f c.lane_items-item-items.result.now c.loop-item.item-index
          (record { 0 = 0 }) c.loop-item-test.true,
    )

pub returns : goal.returns
returns c =
    let N = c.args.network.now in
    let lane = lane_at N c.args.lane.0 in
    let f : ItemNo → ℕ = λ item. block_length (load_of N lane item) in
    let items : List ItemNo = c.lane_items-item-items.result.now in
    let whole : sum_by f items + 1 ≡ count.text_of_lane N lane = ap (λ (xs : List ItemNo). sum_by f xs + 1) c.lane_items-item-items.ensures.value
    ∙ count.blocks_are_text N lane in
    let all : take c.loop-item.item-index items ≡ items = take_all c.loop-item.item-index items c.loop-item-test.false in
    omega (arith, c.loop-item.invariant, whole, ap (sum_by f) all)
