use Rattle.std.proofs.Common.{◌≡◌, ◌<◌, ◌++◌, ◌∷◌, [], Ok, Some, List, length-append, vec_len, vec_capacity, map, sym, ap, subst, ◌∙◌, arith}
use Rattle.std.proofs.lemmas.Bool.{cond-true}
use Rattle.std.specs.Option.{option_to_list}
use Rattle.std.specs.Vec.Iter.{into_iter_items}
use Rattle.mrp_run.specs.declared.plant.Plant.{Plant}
use Rattle.mrp_run.specs.Joined.{Back, faults_in}
use Rattle.mrp_run.specs.Worst.{IsWorst, IsWorstOf}
use Rattle.mrp_run.proofs.JoinedFaults.{plants_in, plants_more, plants_same, with_plant, with_another, no_fault, none_before}
use Rattle.mrp_run.proofs.JoinedThreads.{whole_next, one_left, none_left}
use Rattle.mrp_run.proofs.results.all_of.Goals as goal

pub loop-back-preserved-in-Ok : goal.loop-back-preserved-in-Ok
loop-back-preserved-in-Ok c =
    let at = c.loop-back in
    let left = one_left at.yielded (into_iter_items at.back-iterator) _ c.args.backs.items c.in-Some.back at.invariant.whole c.in-Some.ensures.steps.0 in
    let here : vec_len at.plants < vec_capacity at.plants = omega (arith, left, at.invariant.count, at.invariant.room, c.requires.room.1) in
    let ok = c.push.ensures.succeeds here in record {
      whole = whole_next at.yielded (into_iter_items at.back-iterator) _ c.args.backs.items c.in-Some.back at.invariant.whole c.in-Some.ensures.steps.0;
      plants = c.push.ensures.items ∙ cond-true _ (at.plants.items ++ c.in-Ok.plant ∷ []) at.plants.items ok
          ∙ ap (λ (z : List Plant). z ++ c.in-Ok.plant ∷ []) at.invariant.plants
          ∙ sym (plants_more at.yielded c.in-Ok.plant) ∙ ap (λ (z : Back). plants_in (at.yielded ++ z ∷ [])) (sym c.in-Ok.is);
      count = omega (arith, at.invariant.count, c.push.ensures.upper_bound, length-append at.yielded (c.in-Some.back ∷ []));
      room = omega (arith, at.invariant.room, c.push.ensures.capacity);
      worst = subst (λ (z : Back). IsWorstOf at.worst (option_to_list c.args.before ++ faults_in (at.yielded ++ z ∷ []))) (sym c.in-Ok.is)
          (with_plant c.args.before at.worst at.yielded c.in-Ok.plant at.invariant.worst);
    }

pub loop-back-preserved : goal.loop-back-preserved
loop-back-preserved c =
    let at = c.loop-back in record {
      whole = whole_next at.yielded (into_iter_items at.back-iterator) _ c.args.backs.items c.in-Some.back at.invariant.whole c.in-Some.ensures.steps.0;
      plants = at.invariant.plants ∙ sym (plants_same at.yielded c.in-Err.fault) ∙ ap (λ (z : Back). plants_in (at.yielded ++ z ∷ [])) (sym c.in-Err.is);
      count = omega (arith, at.invariant.count, length-append at.yielded (c.in-Some.back ∷ []));
      room = at.invariant.room;
      worst = subst (λ (z : Back). IsWorstOf (Some c.with_fault.result) (option_to_list c.args.before ++ faults_in (at.yielded ++ z ∷ []))) (sym c.in-Err.is)
          (with_another c.args.before at.worst at.yielded c.in-Err.fault c.with_fault.result c.with_fault.ensures at.invariant.worst);
    }

pub returns-in-None-worst-clause-plants : goal.returns-in-None-worst-clause-plants
returns-in-None-worst-clause-plants c =
    let at = c.loop-back in
    let all : at.yielded ≡ c.args.backs.items = none_left at.yielded (into_iter_items at.back-iterator) c.args.backs.items at.invariant.whole
    (omega (arith, c.in-None.ensures.steps.0, at.back-iterator.rest.ok.0)) in
    let none : option_to_list c.args.before ++ faults_in at.yielded ≡ [] =
    subst (λ w. IsWorstOf w (option_to_list c.args.before ++ faults_in at.yielded)) c.in-None-worst.is at.invariant.worst in
    sym all ∙ no_fault at.yielded (none_before c.args.before (faults_in at.yielded) none).1 ∙ ap (λ (z : List Plant). map Ok z) (sym at.invariant.plants)

pub unwrap-requires : goal.unwrap-requires
unwrap-requires c =
    let at = c.loop-back in
    let left = one_left at.yielded (into_iter_items at.back-iterator) _ c.args.backs.items c.in-Some.back at.invariant.whole c.in-Some.ensures.steps.0 in
    let here : vec_len at.plants < vec_capacity at.plants = omega (arith, left, at.invariant.count, at.invariant.room, c.requires.room.1) in
    c.push.ensures.succeeds here

pub returns-in-None-worst-clause-none : goal.returns-in-None-worst-clause-none
returns-in-None-worst-clause-none c =
    let at = c.loop-back in
    let none : option_to_list c.args.before ++ faults_in at.yielded ≡ [] =
    subst (λ w. IsWorstOf w (option_to_list c.args.before ++ faults_in at.yielded)) c.in-None-worst.is at.invariant.worst in
    (none_before c.args.before (faults_in at.yielded) none).0

pub returns-in-Some-worst-clause-fault : goal.returns-in-Some-worst-clause-fault
returns-in-Some-worst-clause-fault c =
    let at = c.loop-back in
    let all : at.yielded ≡ c.args.backs.items = none_left at.yielded (into_iter_items at.back-iterator) c.args.backs.items at.invariant.whole
    (omega (arith, c.in-None.ensures.steps.0, at.back-iterator.rest.ok.0)) in
    subst (λ (z : List Back). IsWorst c.in-Some-worst.fault (option_to_list c.args.before ++ faults_in z)) all
    (subst (λ w. IsWorstOf w (option_to_list c.args.before ++ faults_in at.yielded)) c.in-Some-worst.is at.invariant.worst)
