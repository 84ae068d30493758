use Rattle.std.proofs.Common.{sym, ap, ◌∙◌, refl, subst}
use Rattle.mrp_net.specs.declared.lane.Lane.{Lane}
use Rattle.mrp_lane.specs.Ends.{Name}
use Rattle.mrp_run.specs.Ends.{IsSendEndOf, IsTakeEndOf}
use Rattle.mrp_run.proofs.Dealt.{lane_is}
use Rattle.mrp_run.proofs.DealtLists.{there_is_one}
use Rattle.mrp_run.proofs.Paired.{have_last, have_both}
use Rattle.mrp_run.proofs.Ran.{left_of_left, takes_before}
use Rattle.mrp_run.proofs.joining.last_ends.Goals as goal

pub unreachable-requires : goal.unreachable-requires
unreachable-requires c =
    let N = c.args.network.now in
    let left = have_last N c.args.lane.0 c.args.plants.now c.requires.left in
    let between = lane_is N N left.last.lane c.args.lane.0 c.lane-between.result refl left.lane c.lane-between.ensures.value in
    there_is_one c.last_send.result _ (c.last_send.ensures.last N left.before _ left.last (ap (λ (lane : Lane). lane.sender.0) between) left.ended).0
    c.in_default.is

pub unreachable-requires-in_default-last_take : goal.unreachable-requires-in_default-last_take
unreachable-requires-in_default-last_take c =
    let N = c.args.network.now in
    let left = have_last N c.args.lane.0 c.args.plants.now c.requires.left in
    let between = lane_is N N left.last.lane c.args.lane.0 c.lane-between.result refl left.lane c.lane-between.ensures.value in
    let sent = c.in-Some.ensures.last N left.before _ left.last (ap (λ (lane : Lane). lane.sender.0) between) left.ended in
    there_is_one c.last_take.result _ (c.last_take.ensures.last N left.before left.before left.last (ap (λ (lane : Lane). lane.receiver.0) between) sent.1).0
    c.in_default-last_take.is

pub returns : goal.returns
returns c =
    let between = c.lane-between.ensures.value in
    let sent = c.in-Some.ensures in
    let took = c.in-Some-last_take.ensures in
    let send = c.in-Some.send in
    let take = c.in-Some-last_take.take in
    let plants = c.args.plants.now in
    let middle = c.last_send.new.plants in
    let both = have_both c.args.network.now c.args.lane.0 plants _ _ c.lane-between.result send take c.requires.left between sent.last took.last in
    record {
      ends = record {
        sends_it = subst (λ (lane : Lane). IsSendEndOf plants lane.sender.0 send) between sent.there;
        takes_it = subst (λ (lane : Lane). IsTakeEndOf plants lane.receiver.0 take) between
            (takes_before plants middle c.lane-between.result.receiver.0 take sent.left took.there);
        network = ap (λ (n : Name). n.network) both.sent ∙ both.network;
        lane = ap (λ (n : Name). n.lane) both.sent ∙ both.lane;
        same = both.sent ∙ sym both.took.0;
        closed = both.took.1;
      };
      left = record { names = both.before; first_lanes = both.first_lanes; ended = both.ended };
      left_of = left_of_left plants middle c.last_take.new.plants sent.left took.left;
    }
