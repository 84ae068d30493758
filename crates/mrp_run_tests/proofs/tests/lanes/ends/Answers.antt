use Rattle.std.proofs.Common.{◌≡◌, ◌<◌, ℕ, length, ap, subst, ◌∙◌, arith}
use Rattle.std.specs.List.{range_with_len}
use Rattle.mrp_master_data.specs.Table.{Table}
use Rattle.mrp_net.specs.Lanes.{lanes, lane_at, lane_items}
use Rattle.mrp_run_tests.proofs.Feeding.{begins}
use Rattle.mrp_run_tests.proofs.tests.lanes.ends.Goals as goal

pub returns-clause-feeds : goal.returns-clause-feeds
returns-clause-feeds c =
    let N = c.args.net.now.network in
    let l : ℕ = c.args.l.0 in
    let is : c.network-network.result.now ≡ N = c.network-network.ensures.value in
    let there : l < length (lanes N) = subst (λ (M : Table). l < length (lanes M)) is (omega (arith, c.if-l-lanes.false, c.lanes.ensures)) in
    let items : length c.lane_items.result.now ≡ length (lane_items N (lane_at N l)) =
    ap length c.lane_items.ensures.value ∙ ap (λ (M : Table). length (lane_items M (lane_at M l))) is in
    begins N c.in_ok-cursor.cursor c.in_ok-send.send l c.in_ok-send.ensures.network c.in_ok-send.ensures.lane there c.network-network.ensures.sized
    (c.in_ok-cursor.ensures.size ∙ items) (c.in_ok-cursor.ensures.queue ∙ ap (range_with_len 0) items) c.in_ok-cursor.ensures.shows c.in_ok-send.ensures.empty.0
