use Rattle.std.proofs.Common.{◌≡◌, [], ◌∷◌, ◌++◌, ◌+◌, length, List, Some, reverse, ap, ◌∙◌, arith, All, length-append}
use Rattle.std.proofs.lemmas.List.Elements.{All-pop}
use Rattle.mrp_master_data.specs.declared.numbers.PairNo.{PairNo}
use Rattle.mrp_agent.specs.State.{AgentState}
use Rattle.mrp_crew.specs.declared.work.Work.{Work}
use Rattle.mrp_crew.specs.Rooms.{IsRoom, WorkedFor, pairs_worked}
use Rattle.mrp_crew.specs.Shut.{AreLetIn, IsLetIn, WasShutToWorker}
use Rattle.mrp_crew.specs.Started.{ordered}
use Rattle.mrp_crew.proofs.Keeping.{when_true}
use Rattle.mrp_crew.proofs.Fronts.{All-pushed, All-where_none}
use Rattle.mrp_crew.proofs.Joining.{only_pair, refused_drafts, whole_drafts}
use Rattle.mrp_crew.proofs.threads.draft_beside.Goals as goal

pub returns-then-not-all-clause-drafts : goal.returns-then-not-all-clause-drafts
returns-then-not-all-clause-drafts g c =
    let A : AgentState = c.args.agent.now in
    let workers = c.start_all-all.new.workers.items in
    let started = c.start_all-all.ensures.started in
    let room : IsRoom A.view.horizon c.take_last-room.result = (All-pop (IsRoom A.view.horizon) c.args.rooms.items c.take_last-room.new.self.items
    (Some c.take_last-room.result) c.take_last-room.ensures.items c.requires.wave.rooms).1 in
    let nothing : All (WorkedFor A) c.args.works.items = All-where_none (WorkedFor A) c.args.works.items c.requires.wave.works.0 in
    refused_drafts A c.args.others.now c.args.own workers started.0
    (record { works = c.join_all.new.works; all = c.start_all-all.result; rooms = c.put_back.new.rooms })
    c.if-not-all.true started.1 (c.join_all.ensures.pairs ∙ ap (λ (z : List Work). ordered workers ++ pairs_worked (reverse z)) c.requires.wave.works.0)
    (c.join_all.ensures.worked A c.start_all-all.ensures.agent nothing) (c.put_back.ensures A.view.horizon c.start_all-all.ensures.rooms room)

pub draft_pair-drafted-requires-clause-room : goal.draft_pair-drafted-requires-clause-room
draft_pair-drafted-requires-clause-room g c κs within =
    let h = c.args.agent.now.view.horizon in
    (All-pop (IsRoom h) c.args.rooms.items c.take_last-room.new.self.items
    (Some c.take_last-room.result) c.take_last-room.ensures.items c.requires.wave.rooms).1

pub returns-clause-drafts : goal.returns-clause-drafts
returns-clause-drafts g c =
    let A : AgentState = c.args.agent.now in
    let workers = c.start_all-all.new.workers.items in
    let started = c.start_all-all.ensures.started in
    let w : Work = c.draft_pair-drafted.result in
    let nothing : All (WorkedFor A) c.args.works.items = All-where_none (WorkedFor A) c.args.works.items c.requires.wave.works.0 in
    let one : All (WorkedFor A) c.push_reserved.new.self.items =
    All-pushed (WorkedFor A) c.args.works.items c.push_reserved.new.self.items w c.push_reserved.ensures.items nothing c.draft_pair-drafted.ensures.worked
    in
    whole_drafts A c.args.others.now c.args.own workers started.0
    (record { works = c.join_all-2.new.works; all = c.start_all-all.result; rooms = c.start_all-all.new.rooms })
    (when_true c.start_all-all.result (started.0 ≡ []) started.2 c.if-not-all.false) started.1
    (c.join_all-2.ensures.pairs
    ∙ ap (λ (z : List PairNo). ordered workers ++ z) (only_pair c.args.works.items c.push_reserved.new.self.items w c.args.own c.requires.wave.works.0
    c.push_reserved.ensures.items c.draft_pair-drafted.ensures.pair))
    (c.join_all-2.ensures.worked A c.start_all-all.ensures.agent one) c.start_all-all.ensures.rooms

pub returns-then-not-all-clause-shut : goal.returns-then-not-all-clause-shut
returns-then-not-all-clause-shut g c =
    let workers = length c.args.others.now + 1 in
    let Shut : Type 0 = WasShutToWorker g.G.Gate.worker_shut workers c.args.plant in
    c.join_all.ensures.shut c.args.plant workers c.start_all-all.ensures.plant (All-where_none (IsLetIn Shut) c.args.works.items c.requires.wave.works.0)

pub returns-clause-shut : goal.returns-clause-shut
returns-clause-shut g c =
    let workers = length c.args.others.now + 1 in
    let Shut : Type 0 = WasShutToWorker g.G.Gate.worker_shut workers c.args.plant in
    let nothing : AreLetIn Shut c.args.works.items = All-where_none (IsLetIn Shut) c.args.works.items c.requires.wave.works.0 in
    c.join_all-2.ensures.shut c.args.plant workers c.start_all-all.ensures.plant
    (All-pushed (IsLetIn Shut) c.args.works.items c.push_reserved.new.self.items c.draft_pair-drafted.result c.push_reserved.ensures.items nothing
    (λ closed. (workers, omega arith, omega arith, c.draft_pair-drafted.ensures.shut closed)))

pub take_last-room-requires : goal.take_last-room-requires
take_last-room-requires g c = omega (arith, c.requires.wave.enough, c.args.rooms.ok.0)

pub start_all-all-requires-clause-can : goal.start_all-all-requires-clause-can
start_all-all-requires-clause-can g c κs within = c.requires.wave.others

pub start_all-all-requires-clause-rooms : goal.start_all-all-requires-clause-rooms
start_all-all-requires-clause-rooms g c κs within =
    let h = c.args.agent.now.view.horizon in
    (All-pop (IsRoom h) c.args.rooms.items c.take_last-room.new.self.items
    (Some c.take_last-room.result) c.take_last-room.ensures.items c.requires.wave.rooms).0

pub start_all-all-requires-clause-enough : goal.start_all-all-requires-clause-enough
start_all-all-requires-clause-enough g c κs within =
    omega (
      arith,
      c.requires.wave.enough,
      ap length c.take_last-room.ensures.items,
      length-append c.take_last-room.new.self.items
          (c.take_last-room.result ∷ []),
    )

pub start_all-all-requires-clause-few : goal.start_all-all-requires-clause-few
start_all-all-requires-clause-few g c κs within = c.requires.wave.few

pub start_all-all-requires-clause-workers : goal.start_all-all-requires-clause-workers
start_all-all-requires-clause-workers g c κs within = c.requires.wave.workers

pub join_all-requires-clause-room : goal.join_all-requires-clause-room
join_all-requires-clause-room g c κs within = omega (arith, c.start_all-all.ensures.few, ap length c.requires.wave.works.0, c.requires.wave.works.1)

pub overflow_add-number : goal.overflow_add-number
overflow_add-number g c = omega (arith, c.requires.wave.few)

pub draft_pair-drafted-requires-clause-can : goal.draft_pair-drafted-requires-clause-can
draft_pair-drafted-requires-clause-can g c κs within = c.requires.wave.own

pub draft_pair-drafted-requires-clause-number : goal.draft_pair-drafted-requires-clause-number
draft_pair-drafted-requires-clause-number g c κs within = (omega arith, omega (arith, c.requires.wave.few))

pub push_reserved-requires : goal.push_reserved-requires
push_reserved-requires g c = omega (arith, ap length c.requires.wave.works.0, c.requires.wave.works.1, c.args.works.ok.0)

pub join_all-requires-2-clause-room : goal.join_all-requires-2-clause-room
join_all-requires-2-clause-room g c κs within =
    omega (
      arith,
      c.start_all-all.ensures.few,
      c.requires.wave.works.1,
      ap length c.requires.wave.works.0,
      ap length c.push_reserved.ensures.items,
      length-append c.args.works.items (c.draft_pair-drafted.result ∷ []),
      c.push_reserved.ensures.capacity,
    )

pub returns-then-not-all-clause-refused : goal.returns-then-not-all-clause-refused
returns-then-not-all-clause-refused g c = c.start_all-all.ensures.refused

pub returns-clause-refused : goal.returns-clause-refused
returns-clause-refused g c = c.start_all-all.ensures.refused
