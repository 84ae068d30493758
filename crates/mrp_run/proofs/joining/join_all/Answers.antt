use Rattle.std.proofs.Common.{◌-◌, ◌<◌, length, map, ap, is_ok, vec_len, vec_capacity, arith}
use Rattle.std.proofs.lemmas.List.{length-map}
use Rattle.std.proofs.lemmas.Result.{IfOk-from_err}
use Rattle.mrp_net.specs.Lanes.{lanes}
use Rattle.mrp_run.specs.Ends.{AreOfEnds, HavePlans}
use Rattle.mrp_run.proofs.DealtLists.{pushed}
use Rattle.mrp_run.proofs.Paired as pair
use Rattle.mrp_run.proofs.PairedSettled.{all_joined, none_joined, one_joined}
use Rattle.mrp_run.proofs.Ran as ran
use Rattle.mrp_run.proofs.joining.join_all.Goals as goal

pub loop-done-init : goal.loop-done-init
loop-done-init g c =
    let N = c.args.network.now in record {
      joined = none_joined N c.args.plants.now (length (lanes N)) _ (ap (map g.L.OfEnds.carried) c.in_ok-all.ensures.items);
      room = omega (arith, c.in_ok-all.ensures.capacity, c.lanes-lanes.ensures);
      left = pair.all_left N c.requires.ended.0 c.args.plants.now c.requires.ended.1 c.requires.ended.2;
      left_of = ran.none_taken c.args.plants.now;
    }

pub overflow_sub-lanes : goal.overflow_sub-lanes
overflow_sub-lanes g c = omega (arith, c.loop-done-test.true)

pub overflow_sub-lanes-in-loop-done : goal.overflow_sub-lanes-in-loop-done
overflow_sub-lanes-in-loop-done g c = omega (arith, c.loop-done-test.true)

pub last_ends-send-requires-clause-lane : goal.last_ends-send-requires-clause-lane
last_ends-send-requires-clause-lane g c = omega (arith, c.loop-done-test.true, c.lanes-lanes.ensures)

pub last_ends-send-requires-clause-left : goal.last_ends-send-requires-clause-left
last_ends-send-requires-clause-left g c = pair.left_here c.args.network.now c.loop-done.plants c.lanes-lanes.result c.loop-done.done c.lanes-lanes.ensures
    c.loop-done-test.true c.loop-done.invariant.left

pub of_ends-requires : goal.of_ends-requires
of_ends-requires g c = record { same = c.last_ends-send.ensures.ends.same }

pub unwrap-requires : goal.unwrap-requires
unwrap-requires g c =
    let here : vec_len c.loop-done.all < vec_capacity c.loop-done.all =
    omega (
      arith,
      c.loop-done.invariant.joined.size,
      length-map c.loop-done.all.items g.L.OfEnds.carried,
      c.loop-done.invariant.room,
      c.loop-done-test.true,
      c.lanes-lanes.ensures,
      c.loop-done.all.ok.0,
    ) in
    c.push.ensures.succeeds here

pub loop-done-preserved : goal.loop-done-preserved
loop-done-preserved g c =
    let N = c.args.network.now in
    let at = c.loop-done in
    record {
      joined = one_joined g.L.OfEnds.carried N c.args.plants.now c.lanes-lanes.result (length (lanes N)) at.done at.all.items c.push.new.self.items
          c.in_ok-joined.joined
          (pushed at.all.items c.push.new.self.items c.in_ok-joined.joined _ c.push.ensures.items (ap is_ok c.unwrap.ensures)) c.lanes-lanes.ensures
          (record {
            send = c.last_ends-send.result.0;
            take = c.last_ends-send.result.1;
            ends = ran.ends_before N c.args.plants.now at.plants _ c.last_ends-send.result.0 c.last_ends-send.result.1 at.invariant.left_of c.last_ends-send.ensures.ends;
            shows = c.in_ok-joined.ensures.shows;
            legal = c.of_ends.ensures.legal;
          })
          at.invariant.joined;
      room = omega (arith, at.invariant.room, c.push.ensures.capacity);
      left = pair.left_next N c.last_ends-send.new.plants c.lanes-lanes.result at.done c.lanes-lanes.ensures c.loop-done-test.true c.last_ends-send.ensures.left;
      left_of = ran.left_of_left c.args.plants.now at.plants c.last_ends-send.new.plants at.invariant.left_of c.last_ends-send.ensures.left_of;
    }

pub returns-clause-ends : goal.returns-clause-ends
returns-clause-ends g c =
    all_joined g.L.OfEnds.carried c.args.network.now c.args.plants.now c.lanes-lanes.result c.loop-done.done c.loop-done.all.items c.as_mut_slice.result.now
    c.reverse.new.self c.loop-done.all.len c.lanes-lanes.ensures
    (omega (arith, c.loop-done-test.false, c.loop-done.auto.done-end)) c.as_mut_slice.ensures.value c.reverse.ensures.after
    (omega (arith, c.loop-done.all.ok.0)) c.loop-done.invariant.joined

pub returns-clause-plans : goal.returns-clause-plans
returns-clause-plans g c = pair.have_plans c.args.network.now c.loop-done.plants
    (length (lanes c.args.network.now) - c.loop-done.done) c.loop-done.invariant.left

pub returns-in_err-all-clause-ends : goal.returns-in_err-all-clause-ends
returns-in_err-all-clause-ends g c = IfOk-from_err c.from_residual.result
    (λ all. AreOfEnds c.args.network.now c.args.plants.now (map g.L.OfEnds.carried all.items)) c.from_residual.ensures.0

pub returns-in_err-all-clause-plans : goal.returns-in_err-all-clause-plans
returns-in_err-all-clause-plans g c = IfOk-from_err c.from_residual.result (λ _. HavePlans c.args.network.now c.args.plants.now) c.from_residual.ensures.0

pub returns-in_err-joined-clause-ends : goal.returns-in_err-joined-clause-ends
returns-in_err-joined-clause-ends g c = IfOk-from_err c.from_residual-in_err-joined.result
    (λ all. AreOfEnds c.args.network.now c.args.plants.now (map g.L.OfEnds.carried all.items)) c.from_residual-in_err-joined.ensures.0

pub returns-in_err-joined-clause-plans : goal.returns-in_err-joined-clause-plans
returns-in_err-joined-clause-plans g c = IfOk-from_err c.from_residual-in_err-joined.result
    (λ _. HavePlans c.args.network.now c.last_ends-send.new.plants) c.from_residual-in_err-joined.ensures.0
