use Rattle.std.proofs.Common.{◌≡◌, ◌<◌, ◌++◌, ◌∷◌, [], List, length, length-append, ap, sym, subst, ◌∙◌, is_ok, vec_len, vec_capacity, arith, Vec, Global}
use Rattle.std.specs.Vec.Iter.{into_iter_items}
use Rattle.std.proofs.lemmas.Result.{IfOk-from_err}
use Rattle.mrp_agent.specs.Given.{HaveGiven}
use Rattle.mrp_netting.specs.declared.plan.PairPlan.{PairPlan}
use Rattle.mrp_run.proofs.GatheredPlans.{AreOwn, given_more}
use Rattle.mrp_run.proofs.DealtLists.{pushed}
use Rattle.mrp_run.proofs.JoinedThreads.{one_left, whole_next, none_left}
use Rattle.mrp_run.proofs.gathering.plans_by_plant.Goals as goal

pub unwrap-requires : goal.unwrap-requires
unwrap-requires c =
    let at = c.loop-plant in
    let left = one_left at.yielded (into_iter_items at.plant-iterator) _ c.args.plants.items c.in-Some.plant at.invariant.whole c.in-Some.ensures.steps.0 in
    let here : vec_len at.given < vec_capacity at.given = omega (arith, left, at.invariant.size, at.invariant.room, at.given.ok.0) in
    c.push.ensures.succeeds here

pub loop-plant-preserved : goal.loop-plant-preserved
loop-plant-preserved c =
    let at = c.loop-plant in
    let plant = c.in-Some.plant in
    let grown : c.push.new.self.items ≡ at.given.items ++ c.into_plans.result ∷ [] =
    pushed at.given.items c.push.new.self.items c.into_plans.result _ c.push.ensures.items (ap is_ok c.unwrap.ensures) in record {
      whole = whole_next at.yielded (into_iter_items at.plant-iterator) _ c.args.plants.items plant at.invariant.whole c.in-Some.ensures.steps.0;
      size = omega (arith, at.invariant.size, ap length grown, length-append at.given.items (c.into_plans.result ∷ []), length-append at.yielded (plant ∷ []));
      room = omega (arith, at.invariant.room, c.push.ensures.capacity);
      own = λ N have. subst (λ (z : List (Vec PairPlan Global)). AreOwn N z) (sym grown)
          (given_more N c.args.plants.items at.yielded (into_iter_items at.plant-iterator) _ plant at.given.items c.into_plans.result have at.invariant.whole
          c.in-Some.ensures.steps.0
          at.invariant.size c.into_plans.ensures.plans c.into_plans.ensures.all (at.invariant.own N have));
    }

pub returns : goal.returns
returns c = λ N have.
    let at = c.loop-plant in
    let all : at.yielded ≡ c.args.plants.items = none_left at.yielded (into_iter_items at.plant-iterator) c.args.plants.items at.invariant.whole
    (omega (arith, c.in-None.ensures.steps.0, at.plant-iterator.rest.ok.0)) in record {
      all = at.invariant.size ∙ ap length all ∙ have.all_plants;
      each = at.invariant.own N have;
    }

pub returns-in_err-given : goal.returns-in_err-given
returns-in_err-given c = λ N have. IfOk-from_err c.from_residual.result (λ given. HaveGiven N given.items (length N.pairs)) c.from_residual.ensures.0
