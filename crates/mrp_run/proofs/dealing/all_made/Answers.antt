use Rattle.std.proofs.Common.{◌<◌, Ok, Result, length, vec_len, vec_capacity, sym, ap, ◌∙◌, arith}
use Rattle.std.proofs.lemmas.List.{length-map}
use Rattle.std.specs.Vec.Iter.{into_iter_items}
use Rattle.mrp_qty.specs.declared.memory.Memory.{Memory}
use Rattle.mrp_run.specs.declared.plant.Plant.{Plant}
use Rattle.mrp_run.proofs.JoinedThreads.{none_left, one_left}
use Rattle.mrp_run.proofs.dealing.all_made.Goals as goal

pub unwrap-requires : goal.unwrap-requires
unwrap-requires c =
    let at = c.loop-plant in
    let left = one_left at.yielded (into_iter_items at.plant-iterator) _ c.args.made.items c.in-Some.plant at.invariant.whole c.in-Some.ensures.steps.0 in
    let here : vec_len at.plants < vec_capacity at.plants = omega
    (arith, left, ap length at.invariant.so_far, length-map {B = Result Plant Memory} at.plants.items Ok, at.invariant.room) in
    c.push.ensures.succeeds here

pub returns : goal.returns
returns c =
    let at = c.loop-plant in
    sym (none_left at.yielded (into_iter_items at.plant-iterator) c.args.made.items at.invariant.whole
    (omega (arith, c.in-None.ensures.steps.0, at.plant-iterator.rest.ok.0))) ∙ at.invariant.so_far
