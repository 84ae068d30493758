use Rattle.std.proofs.Common.{ℕ, [], ◌∷◌, ◌++◌, sym, ap, subst, ◌∙◌}
use Rattle.std.specs.Arc.{arc_value}
use Rattle.crossbeam_queue.specs.Passes.{view}
use Rattle.mrp_lane.specs.declared.view.LaneView.{LaneView}
use Rattle.mrp_lane.specs.Ends.{End, IsNextRecord}
use Rattle.mrp_lane.specs.Views.{IsLegal}
use Rattle.mrp_lane.proofs.Ending.{number_fits, more_fits, ours_there, same_name, sends_on, stays_sending}
use Rattle.mrp_lane.proofs.send.SendEnd.offer.Goals as goal

pub push-requires-clause-legal : goal.push-requires-clause-legal
push-requires-clause-legal g c =
    let p = c.self.inside.pass in
    subst (λ (l : ℕ). IsLegal (view p).network l ((view p).sent ++ c.args.entry ∷ [])) (sym c.self.invariant.1.lane)
    (subst (λ (e : End). IsNextRecord e c.args.entry) (sym c.self.view_is) c.requires.legal)

pub add-requires-clause-number : goal.add-requires-clause-number
add-requires-clause-number g c = number_fits c.self.invariant.1 c.args.entry
    (subst (λ (e : End). IsNextRecord e c.args.entry) (sym c.self.view_is) c.requires.legal)

pub add-requires-clause-fits : goal.add-requires-clause-fits
add-requires-clause-fits g c = more_fits c.self.invariant.1 c.args.entry
    (subst (λ (e : End). IsNextRecord e c.args.entry) (sym c.self.view_is) c.requires.legal)

pub invariant_of-self-2 : goal.invariant_of-self-2
invariant_of-self-2 g c =
    sends_on _ c.self.inside.pass c.push.new.pass c.self.inside.lane.0 c.self.inside.tally c.add.new.self c.args.entry g.S.Stamp.stamp c.self.invariant
    (subst (λ (e : End). IsNextRecord e c.args.entry) (sym c.self.view_is) c.requires.legal) c.push.ensures.same c.in_default.ensures.sent c.add.ensures

pub push-requires-clause-pass : goal.push-requires-clause-pass
push-requires-clause-pass g c = ours_there c.self.invariant.1 c.deref.ensures

pub push-requires-clause-sends : goal.push-requires-clause-sends
push-requires-clause-sends g c = c.self.invariant.0

pub push-requires-clause-named : goal.push-requires-clause-named
push-requires-clause-named g c = c.self.invariant.1.named

pub invariant_of-self : goal.invariant_of-self
invariant_of-self g c = stays_sending _ c.self.inside.pass c.push.new.pass c.self.inside.lane.0 c.self.inside.tally c.self.invariant c.in-Err.ensures.same
    c.in-Err.ensures.unchanged

pub returns-clause-name : goal.returns-clause-name
returns-clause-name g c =
    same_name (arc_value c.self.inside.mailbox) c.self.inside.pass c.push.new.pass c.self.inside.lane.0 _ _ _ c.self.view_is c.push.ensures.same
    (ap (λ (v : LaneView). v.network) c.in_default.ensures.sent)

pub returns-clause-sent : goal.returns-clause-sent
returns-clause-sent g c = ap (λ (v : LaneView). v.sent) c.in_default.ensures.sent ∙ ap (λ (e : End). e.list ++ c.args.entry ∷ []) c.self.view_is

pub returns-clause-stamped : goal.returns-clause-stamped
returns-clause-stamped g c = ap (λ (v : LaneView). v.sent_at) c.in_default.ensures.sent ∙ ap (λ (e : End). e.stamps ++ g.S.Stamp.stamp ∷ []) c.self.view_is

pub returns-in-Err-clause-sent : goal.returns-in-Err-clause-sent
returns-in-Err-clause-sent g c = tt
