use Rattle.std.proofs.Common.{◌≡◌, ◌<◌, length, sym, ap, subst, ◌∙◌}
use Rattle.std.specs.Arc.{arc_value}
use Rattle.mrp_net.specs.Lanes.{lanes}
use Rattle.mrp_loops.specs.Sized.{IsSized}
use Rattle.mrp_lane.specs.declared.view.LaneView.{LaneView}
use Rattle.mrp_lane.specs.Ends.{End, HasLegalList}
use Rattle.mrp_lane.specs.Tallies.{counts_of}
use Rattle.mrp_lane.specs.Views.{IsWholePass}
use Rattle.mrp_lane.proofs.Ending.{ours_there, still_ours}
use Rattle.mrp_lane.proofs.Joined.{both_ours}
use Rattle.mrp_lane.proofs.Rule.{joins, leaves}
use Rattle.mrp_lane.proofs.joining.meet.Goals as goal

pub absorb-requires-clause-queue : goal.absorb-requires-clause-queue
absorb-requires-clause-queue c = (
  ours_there c.send.invariant.1 c.deref.ensures,
  both_ours _ (arc_value c.take.inside.mailbox) _ c.send.inside.pass c.take.inside.pass c.send.inside.lane.0 c.take.inside.lane.0 _ _ _ _ c.args.send
      c.args.take c.send.view_is c.take.view_is c.requires.same c.send.invariant.1.ours c.take.invariant.1.ours c.deref.ensures,
)

pub absorb-requires-clause-rule : goal.absorb-requires-clause-rule
absorb-requires-clause-rule c = joins _ _ _ _ c.send.invariant.0 c.send.invariant.1.named c.take.invariant.0

pub learn_as-requires-clause-queue : goal.learn_as-requires-clause-queue
learn_as-requires-clause-queue c = still_ours _ _ c.send.inside.pass c.absorb.new.pass c.deref-2.ensures c.send.invariant.1.ours c.absorb.ensures.queue

pub learn_as-requires-clause-rule : goal.learn_as-requires-clause-rule
learn_as-requires-clause-rule c = leaves _ _ (ap (λ (v : LaneView). v.takes) c.absorb.ensures.rule)

pub returns-clause-ours : goal.returns-clause-ours
returns-clause-ours c =
    let ours = c.send.invariant.1.ours in
    let absorbed = c.absorb.ensures.queue in
    let learned = c.learn_as.ensures.queue.0 in
    (learned.0 ∙ absorbed.0 ∙ ours.0, learned.2 ∙ absorbed.2 ∙ ours.1)

pub returns-clause-met : goal.returns-clause-met
returns-clause-met c =
    let known = c.learn_as.ensures.queue.1 ∙ c.absorb.ensures.rule in
    let sent = c.send.invariant.1 in
    let taken = c.take.invariant.1 in
    let is = c.send.view_is in
    let is' = c.take.view_is in
    record {
      may = (ap (λ (v : LaneView). v.sends) known, ap (λ (v : LaneView). v.takes) known, ap (λ (v : LaneView). v.named) known);
      network = ap (λ (v : LaneView). v.network) known ∙ ap (λ (e : End). e.name.network) is;
      lane = ap (λ (v : LaneView). v.lane) known ∙ sent.lane ∙ ap (λ (e : End). e.name.lane) is;
      sent_list = ap (λ (v : LaneView). v.sent) known ∙ ap (λ (e : End). e.list) is;
      taken_list = ap (λ (v : LaneView). v.taken) known ∙ ap (λ (e : End). e.list) is';
      sent_at = ap (λ (v : LaneView). v.sent_at) known ∙ ap (λ (e : End). e.stamps) is;
      taken_at = ap (λ (v : LaneView). v.taken_at) known ∙ ap (λ (e : End). e.stamps) is';
      waiting = c.learn_as.ensures.rule.0;
      whole = subst (λ (v : LaneView). IsWholePass v c.learn_as.ensures.rule.0) (sym c.learn_as.ensures.queue.1)
          (c.learn_as.ensures.rule.1 (ap (λ (v : LaneView). v.sends) c.absorb.ensures.rule));
      same = c.requires.same;
      number_is = ap (λ (e : End). e.name.lane) is;
      sized = subst (λ (e : End). IsSized e.name.network) is sent.sized;
      there = subst (λ (e : End). e.name.lane < length (lanes e.name.network)) is sent.there;
      legal_sent = subst HasLegalList is sent.legal;
      legal_taken = subst HasLegalList is' taken.legal;
      counted_sent = subst (λ (e : End). c.send.inside.tally ≡ counts_of e.name.network e.name.lane e.list) is sent.counted;
      counted_taken = subst (λ (e : End). c.take.inside.tally ≡ counts_of e.name.network e.name.lane e.list) is' taken.counted;
    }
