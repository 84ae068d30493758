use Rattle.std.proofs.Common.{◌≡◌, ◌<◌, ◌++◌, ◌∷◌, [], List, is_ok, length, vec_len, vec_capacity, refl, sym, subst, ap, ◌∙◌, append-nil, arith}
use Rattle.std.proofs.lemmas.List.{length-map}
use Rattle.std.specs.Vec.Iter.{into_iter_items}
use Rattle.mrp_run.specs.declared.plant.Plant.{Plant}
use Rattle.mrp_run.specs.Joined.{AreNumberedThreads, started_plants}
use Rattle.mrp_run.specs.Faults.{WasShut, WasSpent}
use Rattle.mrp_run.specs.Steps.{PlantIsAtWork}
use Rattle.mrp_run.proofs.DealtLists.{pushed}
use Rattle.mrp_run.proofs.JoinedKept.{numbered_more}
use Rattle.mrp_run.proofs.JoinedThreads.{holds_next, none_left, started_more, whole_next, one_left}
use Rattle.mrp_run.proofs.StopRules.{allows_each}
use Rattle.mrp_run.specs.declared.fault.RunFault.TheVariants.{ThreadRefused}
use Rattle.mrp_run.proofs.threads.start_all.Goals as goal

pub start-requires-clause-work : goal.start-requires-clause-work
start-requires-clause-work g c = λ κs met.
    holds_next PlantIsAtWork c.loop-plant.yielded (into_iter_items c.loop-plant.plant-iterator) _ c.args.plants.items c.in-Some.plant
    c.loop-plant.invariant.whole c.in-Some.ensures.steps.0 c.requires.work

-- the next thread is that of one of the plants
pub start-requires-clause-rule : goal.start-requires-clause-rule
start-requires-clause-rule g c = λ κs met.
    let at = c.loop-plant in
    let left = one_left at.yielded (into_iter_items at.plant-iterator) _ c.args.plants.items c.in-Some.plant at.invariant.whole c.in-Some.ensures.steps.0 in
    let size : length at.yielded ≡ length at.threads.items = sym (ap length at.invariant.started_so_far)
    ∙ length-map at.threads.items (λ t. t.promise.plant.value) in
    allows_each g.S.StopRule.holds (WasShut g.G.Gate.turn_open g.G.Gate.turn_shut g.G.Gate.worker_shut c.args.workers c.args.turns)
    (WasSpent g.G.Gate.turn_open c.args.turns) (length c.args.plants.items) _ (omega (arith, left, size, c.len.ensures, at.threads.ok.0)) c.requires.rule

pub unwrap-requires : goal.unwrap-requires
unwrap-requires g c =
    let at = c.loop-plant in
    let left = one_left at.yielded (into_iter_items at.plant-iterator) _ c.args.plants.items c.in-Some.plant at.invariant.whole c.in-Some.ensures.steps.0 in
    let size : length at.yielded ≡ length at.threads.items = sym (ap length at.invariant.started_so_far)
    ∙ length-map at.threads.items (λ t. t.promise.plant.value) in
    let here : vec_len at.threads < vec_capacity at.threads = omega (arith, left, size, at.invariant.room, c.requires.room.1, at.threads.ok.0) in
    c.push.ensures.succeeds here

pub loop-plant-preserved : goal.loop-plant-preserved
loop-plant-preserved g c =
    let at = c.loop-plant in
    let plant = c.in-Some.plant in
    let thread = c.in-Some-start.thread in
    let grown : c.push.new.self.items ≡ at.threads.items ++ thread ∷ [] =
    pushed at.threads.items c.push.new.self.items thread _ c.push.ensures.items (ap is_ok c.unwrap.ensures) in record {
      whole = whole_next at.yielded (into_iter_items at.plant-iterator) _ c.args.plants.items plant at.invariant.whole c.in-Some.ensures.steps.0;
      started_so_far = ap started_plants grown ∙ started_more at.threads.items thread
          ∙ ap (λ (z : List Plant). z ++ thread.promise.plant.value ∷ []) at.invariant.started_so_far
          ∙ ap (λ (z : Plant). at.yielded ++ z ∷ []) c.in-Some-start.ensures.plant;
      numbered = subst (λ z. AreNumberedThreads c.args.turns z) (sym grown)
          (numbered_more c.args.turns at.threads.items thread _ (omega (arith, c.len.ensures, at.threads.ok.0)) at.invariant.numbered
          c.in-Some-start.ensures.number c.in-Some-start.ensures.turns);
      room = omega (arith, at.invariant.room, c.push.ensures.capacity);
    }

pub start-requires-clause-workers : goal.start-requires-clause-workers
start-requires-clause-workers g c = λ κs met. c.requires.workers

pub tell-requires : goal.tell-requires
tell-requires g c = record { by_rule = c.requires.rule ThreadRefused tt }

pub returns-in_default-clause-started : goal.returns-in_default-clause-started
returns-in_default-clause-started g c =
    let at = c.loop-plant in
    let rest = into_iter_items at.plant-iterator in
    (rest, sym at.invariant.whole ∙ ap (λ (front : List Plant). front ++ rest) (sym at.invariant.started_so_far), tt)

pub returns-in_default-clause-refused : goal.returns-in_default-clause-refused
returns-in_default-clause-refused g c = refl

pub returns-clause-started : goal.returns-clause-started
returns-clause-started g c =
    let at = c.loop-plant in
    let all : at.yielded ≡ c.args.plants.items = none_left at.yielded (into_iter_items at.plant-iterator) c.args.plants.items at.invariant.whole
    (omega (arith, c.in-None.ensures.steps.0, at.plant-iterator.rest.ok.0)) in
    ([], sym all ∙ sym at.invariant.started_so_far ∙ sym (append-nil (started_plants at.threads.items)), refl)

pub returns-in_default-clause-numbered : goal.returns-in_default-clause-numbered
returns-in_default-clause-numbered g c = c.loop-plant.invariant.numbered

pub returns-clause-numbered : goal.returns-clause-numbered
returns-clause-numbered g c = c.loop-plant.invariant.numbered
