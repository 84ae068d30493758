use Rattle.std.proofs.Common.{[], ◌∷◌, ◌++◌, ◌+◌, length, drop, List, Some, refl, ap, sym, ◌∙◌, arith, length-append}
use Rattle.std.proofs.lemmas.Bool.{false≢true}
use Rattle.std.proofs.lemmas.List.{take-append-drop}
use Rattle.std.proofs.lemmas.List.Elements.{All-pop, All-get_or}
use Rattle.mrp_master_data.specs.declared.numbers.PairNo.{PairNo}
use Rattle.mrp_agent.specs.Drafts.{CanDraft}
use Rattle.mrp_crew.specs.Rooms.{IsRoom}
use Rattle.mrp_crew.specs.Started.{IsWorkerOf, IsFor, ordered}
use Rattle.mrp_crew.proofs.Fronts.{All-pushed, All-where_none}
use Rattle.mrp_crew.proofs.Joining.{started_all, started_next}
use Rattle.mrp_crew.proofs.threads.start_all.Goals as goal

pub returns-in_default-clause-started : goal.returns-in_default-clause-started
returns-in_default-clause-started g c =
    let rest : List PairNo = drop c.loop-pair.pair-index c.args.pairs.now in
    (rest, sym (take-append-drop c.loop-pair.pair-index c.args.pairs.now) ∙ ap (λ (z : List PairNo). z ++ rest) c.loop-pair.invariant.started, tt)

pub loop-pair-preserved : goal.loop-pair-preserved
loop-pair-preserved g c =
    let before = c.loop-pair.invariant in
    let h = c.in-Some.worker in
    let room = c.take_last-room.result in
    let popped = c.take_last-room.ensures.items in
    let pushed = c.push_reserved.ensures.items in
    let more = length-append c.loop-pair.workers.items (h ∷ []) in
    let fewer = length-append c.take_last-room.new.self.items (room ∷ []) in
    record {
      started = started_next c.args.pairs.now c.loop-pair.pair-index _ c.loop-pair.workers.items c.push_reserved.new.self.items h
          (omega arith) before.started pushed c.in-Some.ensures.pair_is;
      number = omega (arith, before.number, ap length pushed, more);
      enough = omega (arith, before.enough, ap length popped, fewer);
      places = omega (arith, before.places, c.push_reserved.ensures.capacity);
      rooms = (All-pop (IsRoom c.args.agent.now.view.horizon) c.loop-pair.rooms.items c.take_last-room.new.self.items (Some room) popped before.rooms).0;
      told = All-pushed (IsFor c.args.agent.now) c.loop-pair.workers.items c.push_reserved.new.self.items h pushed before.told c.in-Some.ensures.agent;
      at = All-pushed (IsWorkerOf c.args.plant (length c.args.pairs.now + 1)) c.loop-pair.workers.items c.push_reserved.new.self.items h pushed before.at
          (record {
            plant_is = c.in-Some.ensures.plant_is;
            first = omega (arith, c.in-Some.ensures.number_is);
            last = omega (arith, c.in-Some.ensures.number_is, c.len.ensures, before.number, c.loop-pair-test.true);
          });
    }

pub loop-pair-init : goal.loop-pair-init
loop-pair-init g c =
    let none = c.requires.workers.0 in
    record {
      started = sym (ap ordered none);
      number = ap length none;
      enough = omega (arith, c.requires.enough);
      places = c.requires.workers.1;
      rooms = c.requires.rooms;
      told = All-where_none (IsFor c.args.agent.now) c.args.workers.now.items none;
      at = All-where_none (IsWorkerOf c.args.plant (length c.args.pairs.now + 1)) c.args.workers.now.items none;
    }

pub offset_bounds-pairs-pair-index : goal.offset_bounds-pairs-pair-index
offset_bounds-pairs-pair-index g c = omega (arith, c.requires.few, c.loop-pair-test.true)

pub take_last-room-requires : goal.take_last-room-requires
take_last-room-requires g c = omega (arith, c.loop-pair.invariant.enough, c.loop-pair-test.true, c.loop-pair.rooms.ok.0)

pub overflow_add-number : goal.overflow_add-number
overflow_add-number g c = omega (arith, c.requires.few, c.loop-pair-test.true, c.loop-pair.invariant.number, c.len.ensures, c.loop-pair.workers.ok.0)

pub start-requires-clause-can : goal.start-requires-clause-can
start-requires-clause-can g c κs within =
    All-get_or (CanDraft c.args.agent.now) c.args.pairs.now c.loop-pair.pair-index (record { 0 = 0 }) c.loop-pair-test.true c.requires.can

pub start-requires-clause-room : goal.start-requires-clause-room
start-requires-clause-room g c κs within =
    let h = c.args.agent.now.view.horizon in
    (All-pop (IsRoom h) c.loop-pair.rooms.items c.take_last-room.new.self.items
    (Some c.take_last-room.result) c.take_last-room.ensures.items c.loop-pair.invariant.rooms).1

pub start-requires-clause-number : goal.start-requires-clause-number
start-requires-clause-number g c κs within =
    (omega arith, omega (arith, c.requires.few, c.loop-pair-test.true, c.loop-pair.invariant.number, c.len.ensures, c.loop-pair.workers.ok.0))

pub returns-in_default-clause-rooms : goal.returns-in_default-clause-rooms
returns-in_default-clause-rooms g c =
    let h = c.args.agent.now.view.horizon in
    (All-pop (IsRoom h) c.loop-pair.rooms.items c.take_last-room.new.self.items
    (Some c.take_last-room.result) c.take_last-room.ensures.items c.loop-pair.invariant.rooms).0

pub returns-in_default-clause-few : goal.returns-in_default-clause-few
returns-in_default-clause-few g c = omega (arith, c.loop-pair.invariant.number, c.loop-pair-test.true)

pub returns-in_default-clause-agent : goal.returns-in_default-clause-agent
returns-in_default-clause-agent g c = c.loop-pair.invariant.told

pub returns-in_default-clause-plant : goal.returns-in_default-clause-plant
returns-in_default-clause-plant g c = c.loop-pair.invariant.at

pub push_reserved-requires : goal.push_reserved-requires
push_reserved-requires g c = omega (arith, c.loop-pair.invariant.number, c.loop-pair.invariant.places, c.loop-pair-test.true, c.loop-pair.workers.ok.0)

pub returns-clause-rooms : goal.returns-clause-rooms
returns-clause-rooms g c = c.loop-pair.invariant.rooms

pub returns-clause-started : goal.returns-clause-started
returns-clause-started g c = (
  [],
  started_all c.args.pairs.now c.loop-pair.pair-index c.loop-pair.workers.items c.loop-pair-test.false
      c.loop-pair.invariant.started,
  refl,
)

pub returns-clause-few : goal.returns-clause-few
returns-clause-few g c = omega (arith, c.loop-pair.invariant.number, c.loop-pair.auto.pair-index-end)

pub returns-clause-agent : goal.returns-clause-agent
returns-clause-agent g c = c.loop-pair.invariant.told

pub returns-clause-plant : goal.returns-clause-plant
returns-clause-plant g c = c.loop-pair.invariant.at

pub returns-in_default-clause-refused : goal.returns-in_default-clause-refused
returns-in_default-clause-refused g c = λ _. omega (arith, c.loop-pair-test.true)

pub returns-clause-refused : goal.returns-clause-refused
returns-clause-refused g c = λ refused. absurd (false≢true (sym refused))
