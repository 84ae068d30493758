use Rattle.std.proofs.Common.{length, length-append, ap, arith}
use Rattle.mrp_run.specs.Faults.{AllTurned}
use Rattle.mrp_run.specs.Joined.{HasKept, started_plants}
use Rattle.mrp_run.proofs.JoinedKept.{kept_finished, kept_rule, turned_back}
use Rattle.mrp_run.proofs.JoinedThreads.{all_back, are_started, pairs_length, worst_back}
use Rattle.std.proofs.lemmas.List.{length-map}
use Rattle.std.proofs.lemmas.Result.{IfOk-from_err}
use Rattle.std.specs.List.{AllZip}
use Rattle.mrp_run.specs.Steps.{Finishes}
use Rattle.mrp_run.specs.declared.fault.RunFault.TheVariants.{Memory, ThreadRefused}
use Rattle.mrp_run.proofs.StopRules.{handed_on}
use Rattle.mrp_run.proofs.threads.run_beside.Goals as goal

pub all_of-requires : goal.all_of-requires
all_of-requires g c = record {
  room = (
    c.in_ok-rooms.ensures.no_plants,
    omega (
      arith,
      pairs_length (HasKept g.G.Gate.turn_open g.S.StopRule.holds) c.start_all-refused.new.threads.items c.join_all.new.backs.items c.join_all.ensures.kept,
      length-map c.start_all-refused.new.threads.items (λ t. t.promise.plant.value),
      ap length c.start_all-refused.ensures.started.1,
      length-append (started_plants c.start_all-refused.new.threads.items) c.start_all-refused.ensures.started.0,
      c.in_ok-rooms.ensures.again,
      c.len-2.ensures,
      c.args.plants.ok.0,
    ),
  );
}

pub returns-clause-each : goal.returns-clause-each
returns-clause-each g c =
    let start = c.start_all-refused in
    all_back c.args.plants.items (started_plants start.new.threads.items) c.err.result c.join_all.new.backs.items c.all_of.result
    (are_started c.args.plants.items (started_plants start.new.threads.items) start.ensures.started.0 start.result c.err.result start.ensures.started.1
    start.ensures.started.2 start.ensures.refused c.err.ensures.value)
    (kept_finished g.G.Gate.turn_open g.S.StopRule.holds start.new.threads.items c.join_all.new.backs.items c.join_all.ensures.kept) c.all_of.ensures.none
    c.all_of.ensures.plants

pub returns-clause-turned : goal.returns-clause-turned
returns-clause-turned g c =
    let start = c.start_all-refused in
    turned_back g.G.Gate.turn_open g.S.StopRule.holds c.args.turns c.args.plants.items start.new.threads.items c.err.result c.join_all.new.backs.items
    c.all_of.result
    (are_started c.args.plants.items (started_plants start.new.threads.items) start.ensures.started.0 start.result c.err.result start.ensures.started.1
    start.ensures.started.2 start.ensures.refused c.err.ensures.value)
    c.join_all.ensures.kept start.ensures.numbered c.all_of.ensures.none c.all_of.ensures.plants

pub returns-clause-fault : goal.returns-clause-fault
returns-clause-fault g c =
    let start = c.start_all-refused in
    let at = are_started c.args.plants.items (started_plants start.new.threads.items) start.ensures.started.0 start.result c.err.result start.ensures.started.1
    start.ensures.started.2 start.ensures.refused c.err.ensures.value in
    worst_back g.S.StopRule.holds c.err.result c.join_all.new.backs.items c.all_of.result (c.requires.rule ThreadRefused tt) at.fault
    (kept_rule g.G.Gate.turn_open g.S.StopRule.holds start.new.threads.items c.join_all.new.backs.items c.join_all.ensures.kept) c.all_of.ensures.fault

pub returns-in_err-threads-clause-each : goal.returns-in_err-threads-clause-each
returns-in_err-threads-clause-each g c = IfOk-from_err c.from_residual.result
    (λ after. AllZip Finishes c.args.plants.items after.items) c.from_residual.ensures.0

pub returns-in_err-threads-clause-turned : goal.returns-in_err-threads-clause-turned
returns-in_err-threads-clause-turned g c = IfOk-from_err c.from_residual.result
    (λ _. AllTurned g.G.Gate.turn_open c.args.turns (length c.args.plants.items)) c.from_residual.ensures.0

pub returns-in_err-threads-clause-fault : goal.returns-in_err-threads-clause-fault
returns-in_err-threads-clause-fault g c = handed_on g.S.StopRule.holds c.from_residual.result Memory c.from_residual.ensures.1 (c.requires.rule Memory tt)

pub returns-in_err-rooms-clause-each : goal.returns-in_err-rooms-clause-each
returns-in_err-rooms-clause-each g c = IfOk-from_err c.from_residual-in_err-rooms.result
    (λ after. AllZip Finishes c.args.plants.items after.items) c.from_residual-in_err-rooms.ensures.0

pub returns-in_err-rooms-clause-turned : goal.returns-in_err-rooms-clause-turned
returns-in_err-rooms-clause-turned g c = IfOk-from_err c.from_residual-in_err-rooms.result
    (λ _. AllTurned g.G.Gate.turn_open c.args.turns (length c.args.plants.items)) c.from_residual-in_err-rooms.ensures.0

pub returns-in_err-rooms-clause-fault : goal.returns-in_err-rooms-clause-fault
returns-in_err-rooms-clause-fault g c = handed_on g.S.StopRule.holds c.from_residual-in_err-rooms.result Memory c.from_residual-in_err-rooms.ensures.1
    (c.requires.rule Memory tt)

pub start_all-refused-requires-clause-work : goal.start_all-refused-requires-clause-work
start_all-refused-requires-clause-work g c κs within = c.requires.work

pub start_all-refused-requires-clause-workers : goal.start_all-refused-requires-clause-workers
start_all-refused-requires-clause-workers g c κs within = c.requires.workers

pub start_all-refused-requires-clause-rule : goal.start_all-refused-requires-clause-rule
start_all-refused-requires-clause-rule g c κs within = c.requires.rule

pub start_all-refused-requires-clause-room : goal.start_all-refused-requires-clause-room
start_all-refused-requires-clause-room g c κs within = (c.in_ok-threads.ensures.0, omega (arith, c.in_ok-threads.ensures.1, c.len.ensures, c.args.plants.ok.0))

pub join_all-requires-clause-empty : goal.join_all-requires-clause-empty
join_all-requires-clause-empty g c κs within = c.in_ok-rooms.ensures.no_backs

-- no more threads were started than there are plants
pub join_all-requires-clause-room : goal.join_all-requires-clause-room
join_all-requires-clause-room g c κs within =
    let start = c.start_all-refused in
    let threads = start.new.threads.items in
    omega (
      arith,
      length-map threads (λ t. t.promise.plant.value),
      ap length start.ensures.started.1,
      length-append (started_plants threads) start.ensures.started.0,
      c.in_ok-rooms.ensures.backs,
      c.len-2.ensures,
      c.args.plants.ok.0,
    )
