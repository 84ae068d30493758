use Rattle.std.proofs.Common.{◌≡◌, ◌++◌, ◌∷◌, [], length, length-append, ap, ◌∙◌, arith}
use Rattle.std.specs.Vec.Iter.{into_iter_items}
use Rattle.mrp_world.proofs.Giving as give
use Rattle.mrp_world.proofs.gathering.plans_by_plant.Goals as goal

pub loop-plant-preserved : goal.loop-plant-preserved
loop-plant-preserved g c =
    let at = c.loop-plant in
    let plant = c.in-Some.plant in
    let pushed : c.push.new.self.items ≡ at.lists.items ++ c.into_plans.result ∷ [] = c.in_ok-push.ensures.items in
    let next = give.plants_next at.yielded (into_iter_items at.plant-iterator) _ c.args.plants.items plant at.invariant.whole c.in-Some.ensures.steps.0
    in record {
      whole = next.0;
      size = omega (arith, at.invariant.size, ap length pushed, length-append at.lists.items (c.into_plans.result ∷ []), length-append at.yielded (plant ∷ []));
      each = give.lists_more c.args.network.now at.lists.items c.push.new.self.items
          (length at.yielded) c.into_plans.result at.invariant.size pushed at.invariant.each
          (give.plant_gives g.P.Plant.shows c.args.network.now c.args.plants.items c.requires.finished
          (length at.yielded) plant c.into_plans.result.items next.1 next.2 c.into_plans.ensures);
    }

pub returns : goal.returns
returns g c =
    let at = c.loop-plant in
    let all : at.yielded ≡ c.args.plants.items = give.all_given at.yielded (into_iter_items at.plant-iterator) c.args.plants.items at.invariant.whole
    (omega (arith, c.in-None.ensures.steps.0, at.plant-iterator.rest.ok.0)) in record {
      all = at.invariant.size ∙ ap length all ∙ give.plants_all g.P.Plant.shows c.args.network.now c.args.plants.items c.requires.finished;
      each = at.invariant.each;
    }
