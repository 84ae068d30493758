use Rattle.std.proofs.Common.{[], ◌∷◌, ◌++◌, length, sym, ap, ◌∙◌}
use Rattle.crossbeam_queue.specs.Passes.{view}
use Rattle.mrp_lane.specs.declared.view.LaneView.{LaneView}
use Rattle.mrp_lane.proofs.Joined.{one_more_each, took_none, took_more}
use Rattle.mrp_lane.proofs.joining.drained.Goals as goal

pub loop-init : goal.loop-init
loop-init g c = record {
  ours = c.requires.pass;
  left_at = [];
  as_many = ap length (sym c.new-left.ensures.items);
  taken = took_none (view c.args.pass.now) _ c.new-left.ensures.items;
}

pub pop-requires-clause-pass : goal.pop-requires-clause-pass
pop-requires-clause-pass g c = c.loop.invariant.ours

pub pop-requires-clause-takes : goal.pop-requires-clause-takes
pop-requires-clause-takes g c = ap (λ (v : LaneView). v.takes) c.loop.invariant.taken ∙ c.requires.takes

pub pop-requires-clause-named : goal.pop-requires-clause-named
pop-requires-clause-named g c = ap (λ (v : LaneView). v.named) c.loop.invariant.taken ∙ c.requires.named

pub loop-preserved : goal.loop-preserved
loop-preserved g c =
    let so_far = c.loop.invariant in
    let same = c.pop.ensures.same in
    let took = c.in-Some-pop.ensures.taken in
    record {
      ours = (same.0 ∙ so_far.ours.0, same.2 ∙ so_far.ours.1);
      left_at = so_far.left_at ++ took.stamp ∷ [];
      as_many = one_more_each c.loop.left.items c.push.new.self.items so_far.left_at c.in-Some-pop.entry took.stamp c.in_ok-push-in-Some-pop.ensures.items
          so_far.as_many;
      taken = took_more (view c.args.pass.now) _ _ c.loop.left.items c.push.new.self.items so_far.left_at c.in-Some-pop.entry took.stamp took.is so_far.taken
          c.in_ok-push-in-Some-pop.ensures.items;
    }
