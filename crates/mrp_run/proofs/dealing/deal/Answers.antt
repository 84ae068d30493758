use Rattle.std.proofs.Common.{◌+◌, ◌<◌, length, sym, ap, subst, ◌∙◌}
use Rattle.std.proofs.lemmas.Result.{IfOk-from_err, on_ok_weaker}
use Rattle.mrp_master_data.specs.Table.{Table}
use Rattle.mrp_net.specs.Lanes.{lanes}
use Rattle.mrp_run.specs.Ends.{HaveFirst}
use Rattle.mrp_net.specs.declared.lane.Lane.{Lane}
use Rattle.mrp_lane.specs.Ends.{Name}
use Rattle.mrp_run.proofs.Dealt.{have_next, lane_is}
use Rattle.mrp_run.proofs.dealing.deal.Goals as goal

pub returns : goal.returns
returns c =
    let N = c.args.net.now.network in
    let ns = c.requires.first.names in
    let sent = c.in_ok-send.send in
    let between = lane_is N c.network.result.now sent.name.lane c.args.number.0 c.lane-between.result c.network.ensures.value c.in_ok-send.ensures.lane
    c.lane-between.ensures.value in
    let same = c.in_ok-send.ensures.same in
    let receiver = lane_is N c.network.result.now c.in_ok-send.take.name.lane c.args.number.0 c.lane-between.result c.network.ensures.value
    (sym (ap (λ (n : Name). n.lane) same) ∙ c.in_ok-send.ensures.lane) c.lane-between.ensures.value in
    let sends = c.in_ok-deal_send.ensures N ns ns (ap (λ (lane : Lane). lane.sender.0) between)
    (record { list = c.in_ok-send.ensures.empty.0; stamps = c.in_ok-send.ensures.unstamped.0 }) c.requires.first.idle in
    record {
      next = on_ok_weaker c.deal_take.result (λ deals.
          let takes = deals N _ ns (ap (λ (lane : Lane). lane.receiver.0) receiver)
          (record { list = c.in_ok-send.ensures.empty.1; stamps = c.in_ok-send.ensures.unstamped.1 }) sends in
          have_next N c.args.capacity c.args.number.0 ns sent.name c.in_ok-send.take.name c.deal_take.new.plants c.requires.first.first_lanes
          c.requires.first.rooms c.in_ok-send.ensures.lane
          c.in_ok-send.ensures.network same c.in_ok-send.ensures.room takes) c.deal_take.ensures;
    }

pub lane-between-requires : goal.lane-between-requires
lane-between-requires c = subst (λ (N : Table). c.args.number.0 < length (lanes N)) (sym c.network.ensures.value) c.requires.lane

pub lane-requires-clause-lane : goal.lane-requires-clause-lane
lane-requires-clause-lane c = c.requires.lane

pub lane-requires-clause-capacity : goal.lane-requires-clause-capacity
lane-requires-clause-capacity c = c.requires.capacity

pub returns-in_err-send : goal.returns-in_err-send
returns-in_err-send c = record {
  next = IfOk-from_err c.from_residual.result (λ _. HaveFirst c.args.net.now.network c.args.capacity (c.args.number.0 + 1) c.args.plants.now)
      c.from_residual.ensures.0;
}

pub returns-in_err-deal_send : goal.returns-in_err-deal_send
returns-in_err-deal_send c = record {
  next = IfOk-from_err c.from_residual-in_err-deal_send.result (λ _. HaveFirst c.args.net.now.network c.args.capacity
      (c.args.number.0 + 1) c.deal_send.new.plants)
      c.from_residual-in_err-deal_send.ensures.0;
}
