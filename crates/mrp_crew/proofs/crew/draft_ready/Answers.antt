use Rattle.std.proofs.Common.{[], ◌∷◌, ◌++◌, ◌<◌, List, length, take, get_or, refl, ap, sym, ◌∙◌, subst, arith, All, length-append}
use Rattle.std.proofs.lemmas.List.{length-take-le}
use Rattle.std.proofs.lemmas.List.Elements.{All-take, All-get_or}
use Rattle.std.proofs.lemmas.Result.{err_from_is_err_and}
use Rattle.mrp_master_data.specs.declared.numbers.PairNo.{PairNo}
use Rattle.mrp_agent.specs.Drafts.{CanDraft}
use Rattle.mrp_agent.specs.State.{AgentState}
use Rattle.mrp_crew.specs.Rooms.{IsRoom}
use Rattle.mrp_crew.proofs.Drafting.{drafts_settle, wave_can, wave_once}
use Rattle.mrp_crew.proofs.Fronts.{All-where_none}
use Rattle.mrp_crew.proofs.Ready.{all_can_draft}
use Rattle.mrp_crew.proofs.ShutGates.{let_in_of_more}
use Rattle.mrp_crew.proofs.crew.draft_ready.Goals as goal

pub others_of-others-requires-clause-ready : goal.others_of-others-requires-clause-ready
others_of-others-requires-clause-ready g c = omega (arith, c.requires.ready, ap length c.ready_pairs-pairs.ensures.numbers)

pub others_of-others-requires-clause-workers : goal.others_of-others-requires-clause-workers
others_of-others-requires-clause-workers g c = c.requires.workers

pub overflow_add-others : goal.overflow_add-others
overflow_add-others g c = omega (arith, c.others_of-others.ensures, c.requires.workers.1)

pub offset_bounds-pairs-others : goal.offset_bounds-pairs-others
offset_bounds-pairs-others g c = omega (arith, c.others_of-others.ensures, c.requires.workers.1)

pub bounds-pairs-others : goal.bounds-pairs-others
bounds-pairs-others g c = omega (arith, c.others_of-others.ensures)

pub slice_bounds-others-end : goal.slice_bounds-others-end
slice_bounds-others-end g c = sym (length-take-le c.others_of-others.result c.ready_pairs-pairs.result.now (omega (arith, c.others_of-others.ensures)))

pub draft_wave-requires-clause-wave : goal.draft_wave-requires-clause-wave
draft_wave-requires-clause-wave g c = λ κs met.
    let A : AgentState = c.args.agent.now in
    let ready = c.ready_pairs-pairs in
    let numbers : List PairNo = ready.result.now in
    let others = c.others_of-others.result in
    let one_less = c.others_of-others.ensures in
    let can = all_can_draft A c.requires.plannable numbers ready.ensures.numbers ready.ensures.own ready.ensures.exact in
    let taken = length-take-le others numbers (omega (arith, one_less)) in
    record {
      others = All-take (CanDraft A) others numbers can;
      own = All-get_or (CanDraft A) numbers others (record { 0 = 0 }) (omega (arith, one_less)) can;
      rooms = subst (λ z. All (IsRoom A.view.horizon) z.items) (sym c.replace-rooms.ensures.value) c.requires.rooms;
      enough = omega (arith, taken, one_less, c.requires.enough, ap (λ z. length z.items) c.replace-rooms.ensures.value);
      workers = (c.in_ok-threads.ensures.items, omega (arith, taken, c.in_ok-threads.ensures.capacity));
      few = omega (arith, taken, one_less, c.requires.workers.1);
      works = (c.in_ok-works.ensures.items, omega (arith, taken, c.in_ok-works.ensures.capacity));
    }

pub returns-in_err-works-clause-rooms : goal.returns-in_err-works-clause-rooms
returns-in_err-works-clause-rooms g c = c.requires.rooms

pub returns-in_err-threads-clause-rooms : goal.returns-in_err-threads-clause-rooms
returns-in_err-threads-clause-rooms g c = c.requires.rooms

pub returns-in_err-works-clause-drafts : goal.returns-in_err-works-clause-drafts
returns-in_err-works-clause-drafts g c =
    let p = err_from_is_err_and c.from_residual.result c.from_residual.ensures.1 in
    rw p.1 tt

pub returns-in_err-works-clause-some : goal.returns-in_err-works-clause-some
returns-in_err-works-clause-some g c =
    let p = err_from_is_err_and c.from_residual.result c.from_residual.ensures.1 in
    rw p.1 tt

pub returns-in_err-works-clause-free : goal.returns-in_err-works-clause-free
returns-in_err-works-clause-free g c =
    let p = err_from_is_err_and c.from_residual.result c.from_residual.ensures.1 in
    rw p.1 tt

pub returns-in_err-works-clause-shut : goal.returns-in_err-works-clause-shut
returns-in_err-works-clause-shut g c =
    let p = err_from_is_err_and c.from_residual.result c.from_residual.ensures.1 in
    rw p.1 tt

pub returns-in_err-threads-clause-drafts : goal.returns-in_err-threads-clause-drafts
returns-in_err-threads-clause-drafts g c =
    let p = err_from_is_err_and c.from_residual-in_err-threads.result c.from_residual-in_err-threads.ensures.1 in
    rw p.1 tt

pub returns-in_err-threads-clause-some : goal.returns-in_err-threads-clause-some
returns-in_err-threads-clause-some g c =
    let p = err_from_is_err_and c.from_residual-in_err-threads.result c.from_residual-in_err-threads.ensures.1 in
    rw p.1 tt

pub returns-in_err-threads-clause-free : goal.returns-in_err-threads-clause-free
returns-in_err-threads-clause-free g c =
    let p = err_from_is_err_and c.from_residual-in_err-threads.result c.from_residual-in_err-threads.ensures.1 in
    rw p.1 tt

pub returns-in_err-threads-clause-shut : goal.returns-in_err-threads-clause-shut
returns-in_err-threads-clause-shut g c =
    let p = err_from_is_err_and c.from_residual-in_err-threads.result c.from_residual-in_err-threads.ensures.1 in
    rw p.1 tt

pub returns-clause-rooms : goal.returns-clause-rooms
returns-clause-rooms g c =
    let h = c.args.agent.now.view.horizon in
    All-where_none (IsRoom h) c.replace-rooms.new.dest.items (ap (λ z. z.items) c.replace-rooms.ensures.after ∙ c.new.ensures.items)

pub returns-clause-drafts : goal.returns-clause-drafts
returns-clause-drafts g c =
    let A : AgentState = c.args.agent.now in
    let ready = c.ready_pairs-pairs in
    let numbers : List PairNo = ready.result.now in
    let others = c.others_of-others.result in
    let no_pair : PairNo = record { 0 = 0 } in
    let own : PairNo = get_or numbers others no_pair in
    let there : others < length numbers = omega (arith, c.others_of-others.ensures) in
    let can : All (CanDraft A) numbers = all_can_draft A c.requires.plannable numbers ready.ensures.numbers ready.ensures.own ready.ensures.exact in
    drafts_settle A (take others numbers ++ own ∷ []) (wave_can (CanDraft A) numbers others own can (All-get_or (CanDraft A) numbers others no_pair there can))
    (wave_once numbers others no_pair own there refl ready.ensures.once) c.draft_wave.result c.draft_wave.ensures.drafts

pub returns-clause-some : goal.returns-clause-some
returns-clause-some g c = λ all.
    omega (
      arith,
      c.draft_wave.ensures.drafts.all all,
      length-append (take c.others_of-others.result c.ready_pairs-pairs.result.now)
          (get_or c.ready_pairs-pairs.result.now c.others_of-others.result (record { 0 = 0 }) ∷ []),
    )

pub returns-clause-free : goal.returns-clause-free
returns-clause-free g c = c.draft_wave.ensures.drafts.rooms

pub returns-clause-shut : goal.returns-clause-shut
returns-clause-shut g c =
    let others = length-take-le c.others_of-others.result c.ready_pairs-pairs.result.now (omega (arith, c.others_of-others.ensures)) in
    let_in_of_more g.G.Gate.worker_shut _ c.args.workers c.args.plant c.draft_wave.result.works.items
    (omega (arith, others, c.others_of-others.ensures)) c.draft_wave.ensures.shut

pub returns-in_err-works-clause-refused : goal.returns-in_err-works-clause-refused
returns-in_err-works-clause-refused g c =
    let p = err_from_is_err_and c.from_residual.result c.from_residual.ensures.1 in
    rw p.1 tt

pub returns-in_err-threads-clause-refused : goal.returns-in_err-threads-clause-refused
returns-in_err-threads-clause-refused g c =
    let p = err_from_is_err_and c.from_residual-in_err-threads.result c.from_residual-in_err-threads.ensures.1 in
    rw p.1 tt

pub returns-clause-refused : goal.returns-clause-refused
returns-clause-refused g c = λ refused.
    let others = length-take-le c.others_of-others.result c.ready_pairs-pairs.result.now (omega (arith, c.others_of-others.ensures)) in
    omega (arith, c.draft_wave.ensures.refused refused, others, c.others_of-others.ensures)
