use Rattle.std.proofs.Common.{ℕ, ◌+◌, ◌*◌, ◌≤◌, List, length, get_or, arith}
use Rattle.std.specs.List.{All, sum_by}
use Rattle.std.proofs.lemmas.List.Elements.{All-from_get_or}
use Rattle.std.proofs.lemmas.List.Sums.{sum_by-le}
use Rattle.mrp_qty.specs.declared.limits.TheConstants.{MOST_OF_A_KIND}
use Rattle.mrp_qty.specs.declared.quantity.TheConstants.{MOST}
use Rattle.mrp_master_data.specs.declared.numbers.ItemNo.{ItemNo}
use Rattle.mrp_master_data.specs.Table.{Table, IsTable}
use Rattle.mrp_net.specs.declared.lane.Lane.{Lane}
use Rattle.mrp_net.specs.Lanes.{lane_at, lane_items}
use Rattle.mrp_net.specs.Texts.{longest_block, longest_text}
use Rattle.mrp_net.proofs.Lengths.{block_is_short, lane_items_are_few}
use Rattle.mrp_record_csv.proofs.most.Most.records.Goals as goal

text_is_short : (N : Table) (lane : Lane) → IsTable N → longest_text N lane ≤ MOST
text_is_short N lane is =
    let items : List ItemNo = lane_items N lane in
    let most : ℕ = MOST_OF_A_KIND + 2 in
    let short : All (λ item. longest_block N lane item ≤ most) items =
    All-from_get_or (λ item. longest_block N lane item ≤ most) items (record { 0 = 0 })
    (λ i lt. block_is_short N lane (get_or items i (record { 0 = 0 })) is) in
    let sum : sum_by (longest_block N lane) items ≤ length items * most = sum_by-le (longest_block N lane) most items short in
    omega (arith, sum, lane_items_are_few N lane is)

pub returns-in-OfLane-clause-short : goal.returns-in-OfLane-clause-short
returns-in-OfLane-clause-short c =
    omega (arith, c.longest_text.ensures, text_is_short c.args.network.now (lane_at c.args.network.now c.in-OfLane.lane.0) c.pairs-pairs.ensures.table)
