use Rattle.std.proofs.Common.{◌<◌, length, min, refl, sym, ap, subst, ◌∙◌, arith}
use Rattle.std.specs.Arc.{arc_value}
use Rattle.mrp_master_data.specs.Table.{Table}
use Rattle.mrp_net.specs.Lanes.{lane_at, lanes}
use Rattle.mrp_net.specs.Texts.{longest_text}
use Rattle.mrp_loops.specs.Sized.{IsSized}
use Rattle.mrp_lane.proofs.Ending.{opens_sending, opens_taking, still_ours}
use Rattle.mrp_lane.proofs.making.lane.Goals as goal
use Rattle.mrp_lane.proofs.making.lane.Goals.{After-network-network}
use Rattle.mrp_lane.specs.declared.view.LaneView.{LaneView}

is_sized : (c : After-network-network) → IsSized c.network-network.result.now
is_sized c = subst IsSized (sym c.network-network.ensures.value) c.network-network.ensures.sized

there : (c : After-network-network) → c.args.lane.0 < length (lanes c.network-network.result.now)
there c = subst (λ (N : Table). c.args.lane.0 < length (lanes N)) (sym c.network-network.ensures.value) c.requires.lane

pub invariant_of-send : goal.invariant_of-send
invariant_of-send c =
    let pass = c.name-takers_pass.new.pass in
    let mailbox = arc_value c.in_ok-mailbox.mailbox in
    opens_sending mailbox pass c.network-network.result.now c.args.lane.0 c.in_ok-sent.sent
    (still_ours mailbox mailbox c.in_ok-mailbox.pass pass refl c.in_ok-mailbox.ensures.pass c.name-takers_pass.ensures.same)
    c.name-takers_pass.ensures.sends (is_sized (goal.at.invariant_of-send c).After-network-network)
    (there (goal.at.invariant_of-send c).After-network-network) c.in_ok-sent.ensures

pub invariant_of-take : goal.invariant_of-take
invariant_of-take c =
    let pass = c.name-takers_pass.result in
    let mailbox = arc_value c.in_ok-mailbox.takers_mailbox in
    opens_taking mailbox pass c.network-network.result.now c.args.lane.0 c.in_ok-taken.taken
    (still_ours _ mailbox pass pass (c.in_ok-mailbox.ensures.one ∙ sym c.deref.ensures) c.name-takers_pass.ensures.takers (refl, refl, refl))
    c.name-takers_pass.ensures.takes (is_sized (goal.at.invariant_of-take c).After-network-network)
    (there (goal.at.invariant_of-take c).After-network-network) c.in_ok-taken.ensures

pub longest_text-requires : goal.longest_text-requires
longest_text-requires c = there c

pub shared-requires : goal.shared-requires
shared-requires c = omega (arith, c.min-room.ensures, c.longest_text.ensures, c.requires.capacity.0)

pub name-takers_pass-requires-clause-pass : goal.name-takers_pass-requires-clause-pass
name-takers_pass-requires-clause-pass c = still_ours _ _ c.in_ok-mailbox.pass c.in_ok-mailbox.pass c.deref.ensures c.in_ok-mailbox.ensures.pass
    (refl, refl, refl)

pub name-takers_pass-requires-clause-first : goal.name-takers_pass-requires-clause-first
name-takers_pass-requires-clause-first c = c.in_ok-mailbox.ensures.first

pub of-requires-clause-sized : goal.of-requires-clause-sized
of-requires-clause-sized c = is_sized (goal.at.of-requires-clause-sized c).After-network-network

pub of-requires-clause-lane : goal.of-requires-clause-lane
of-requires-clause-lane c = there (goal.at.of-requires-clause-lane c).After-network-network

pub of-requires-2-clause-sized : goal.of-requires-2-clause-sized
of-requires-2-clause-sized c = is_sized (goal.at.of-requires-2-clause-sized c).After-network-network

pub of-requires-2-clause-lane : goal.of-requires-2-clause-lane
of-requires-2-clause-lane c = there (goal.at.of-requires-2-clause-lane c).After-network-network

pub returns-clause-network : goal.returns-clause-network
returns-clause-network c = ap (λ (v : LaneView). v.network) c.name-takers_pass.ensures.sends ∙ c.network-network.ensures.value

pub returns-clause-lane : goal.returns-clause-lane
returns-clause-lane c = refl

pub returns-clause-room : goal.returns-clause-room
returns-clause-room c =
    c.in_ok-mailbox.ensures.room ∙ c.min-room.ensures
    ∙ ap (min c.args.capacity) (c.longest_text.ensures ∙ ap (λ (N : Table). longest_text N (lane_at N c.args.lane.0)) c.network-network.ensures.value)

pub returns-clause-same : goal.returns-clause-same
returns-clause-same c =
    let names = c.name-takers_pass.ensures in
    let mailbox = names.same.0 ∙ c.in_ok-mailbox.ensures.pass.0 ∙ ap (λ b. b.table.shared.table_id) (sym c.deref.ensures) ∙ sym names.takers.0 in
    let network = ap (λ (v : LaneView). v.network) names.sends ∙ sym (ap (λ (v : LaneView). v.network) names.takes) in
    let room = ap (λ b. b.cap) (sym c.in_ok-mailbox.ensures.one) in
    λ j. record { mailbox = mailbox j; network = network j; lane = c.args.lane.0; room = room j }

pub returns-clause-empty : goal.returns-clause-empty
returns-clause-empty c =
    (ap (λ (v : LaneView). v.sent) c.name-takers_pass.ensures.sends, ap (λ (v : LaneView). v.taken) c.name-takers_pass.ensures.takes)

pub returns-clause-unstamped : goal.returns-clause-unstamped
returns-clause-unstamped c =
    (ap (λ (v : LaneView). v.sent_at) c.name-takers_pass.ensures.sends, ap (λ (v : LaneView). v.taken_at) c.name-takers_pass.ensures.takes)
