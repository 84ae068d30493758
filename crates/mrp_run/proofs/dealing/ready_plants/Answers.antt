use Rattle.std.proofs.Common.{◌≡◌, ◌+◌, [], length, ap, subst, sym, ◌∙◌, arith}
use Rattle.std.specs.List.{All}
use Rattle.std.proofs.lemmas.Result.{IfOk-from_err}
use Rattle.mrp_master_data.specs.Table.{Table}
use Rattle.mrp_net.specs.Lanes.{lanes}
use Rattle.mrp_loops.specs.Sized.{IsSized}
use Rattle.mrp_run.specs.Ends.{AreIdle, AreReady, HaveMailboxRoom, HaveFirst}
use Rattle.mrp_run.proofs.Dealt.{first_in_place, have_none}
use Rattle.mrp_run.proofs.DealtReady.{are_ready, have_rooms}
use Rattle.mrp_run.proofs.dealing.ready_plants.Goals as goal

pub idle_plants-requires-clause-sized : goal.idle_plants-requires-clause-sized
idle_plants-requires-clause-sized g c κs within = subst IsSized (sym c.network-network.ensures.value) c.network-network.ensures.sized

pub loop-l-init : goal.loop-l-init
loop-l-init g c = have_none c.args.net.now.network c.args.capacity c.in_ok-plants.plants.items
    (subst (λ (N : Table). AreIdle N [] [] c.in_ok-plants.plants.items) c.network-network.ensures.value c.in_ok-plants.ensures)

pub deal-requires-clause-first : goal.deal-requires-clause-first
deal-requires-clause-first g c = subst (HaveFirst c.args.net.now.network c.args.capacity c.loop-l.l) (sym c.deref_mut.ensures.value) c.loop-l.invariant

pub loop-l-preserved : goal.loop-l-preserved
loop-l-preserved g c =
    first_in_place c.args.net.now.network c.args.capacity c.loop-l.l
    (c.loop-l.l + 1) c.loop-l.plants.items c.deal.new.plants c.loop-l.plants.len c.loop-l.invariant
    (omega (arith, c.loop-l.plants.ok.0)) c.in_ok-deal.ensures.next

pub returns-clause-ready : goal.returns-clause-ready
returns-clause-ready g c =
    let all : c.lanes-l-end.result ≡ length (lanes c.args.net.now.network) =
    c.lanes-l-end.ensures ∙ ap (λ (N : Table). length (lanes N)) c.network-network.ensures.value in
    are_ready c.args.net.now.network c.args.capacity c.loop-l.l c.loop-l.plants.items c.network-network.ensures.sized
    (omega (arith, all, c.loop-l-test.false, c.loop-l.auto.l-end)) c.loop-l.invariant

pub returns-clause-rooms : goal.returns-clause-rooms
returns-clause-rooms g c = have_rooms c.args.net.now.network c.args.capacity c.loop-l.l c.loop-l.plants.items c.loop-l.invariant

pub deal-requires-clause-lane : goal.deal-requires-clause-lane
deal-requires-clause-lane g c =
    let all : c.lanes-l-end.result ≡ length (lanes c.args.net.now.network) =
    c.lanes-l-end.ensures ∙ ap (λ (N : Table). length (lanes N)) c.network-network.ensures.value in
    omega (arith, all, c.loop-l-test.true)

pub deal-requires-clause-capacity : goal.deal-requires-clause-capacity
deal-requires-clause-capacity g c = c.requires.capacity

pub returns-in_err-plants-clause-ready : goal.returns-in_err-plants-clause-ready
returns-in_err-plants-clause-ready g c = IfOk-from_err c.from_residual.result (λ plants. AreReady c.args.net.now.network plants.items) c.from_residual.ensures.0

pub returns-in_err-plants-clause-rooms : goal.returns-in_err-plants-clause-rooms
returns-in_err-plants-clause-rooms g c = IfOk-from_err c.from_residual.result
    (λ plants. All (HaveMailboxRoom c.args.net.now.network c.args.capacity) plants.items) c.from_residual.ensures.0

pub returns-in_err-deal-clause-ready : goal.returns-in_err-deal-clause-ready
returns-in_err-deal-clause-ready g c = IfOk-from_err c.from_residual-in_err-deal.result
    (λ plants. AreReady c.args.net.now.network plants.items) c.from_residual-in_err-deal.ensures.0

pub returns-in_err-deal-clause-rooms : goal.returns-in_err-deal-clause-rooms
returns-in_err-deal-clause-rooms g c = IfOk-from_err c.from_residual-in_err-deal.result
    (λ plants. All (HaveMailboxRoom c.args.net.now.network c.args.capacity) plants.items) c.from_residual-in_err-deal.ensures.0
