use Rattle.std.proofs.Common.{[], ◌∷◌, ◌++◌, ap, ◌∙◌}
use Rattle.std.specs.Arc.{arc_value}
use Rattle.crossbeam_queue.specs.Passes.{view}
use Rattle.mrp_lane.specs.declared.view.LaneView.{LaneView}
use Rattle.mrp_lane.specs.Ends.{End}
use Rattle.mrp_lane.proofs.Ending.{number_fits, more_fits, ours_there, same_name, stays_taking, taken_is_legal, taken_stays_legal, takes_on}
use Rattle.mrp_lane.proofs.take.TakeEnd.take.Goals as goal

pub add-requires-clause-number : goal.add-requires-clause-number
add-requires-clause-number g c =
    let h = c.self.invariant.1 in
    number_fits h c.in_ok-entry.entry (taken_is_legal (view c.self.inside.pass)
    (view c.pop.new.pass) c.in_ok-entry.entry c.self.inside.lane.0 h.lane c.in_ok-entry.ensures.taken)

pub add-requires-clause-fits : goal.add-requires-clause-fits
add-requires-clause-fits g c =
    let h = c.self.invariant.1 in
    more_fits h c.in_ok-entry.entry (taken_is_legal (view c.self.inside.pass)
    (view c.pop.new.pass) c.in_ok-entry.entry c.self.inside.lane.0 h.lane c.in_ok-entry.ensures.taken)

pub invariant_of-self-2 : goal.invariant_of-self-2
invariant_of-self-2 g c =
    takes_on _ c.self.inside.pass c.pop.new.pass c.self.inside.lane.0 c.self.inside.tally c.add.new.self c.in_ok-entry.entry c.self.invariant
    c.pop.ensures.same c.in_ok-entry.ensures.taken c.add.ensures

pub returns-clause-legal : goal.returns-clause-legal
returns-clause-legal g c = taken_stays_legal (view c.self.inside.pass)
    (view c.pop.new.pass) c.in_ok-entry.entry c.self.inside.lane.0 c.self.invariant.1.lane c.in_ok-entry.ensures.taken

pub pop-requires-clause-pass : goal.pop-requires-clause-pass
pop-requires-clause-pass g c = ours_there c.self.invariant.1 c.deref.ensures

pub pop-requires-clause-takes : goal.pop-requires-clause-takes
pop-requires-clause-takes g c = c.self.invariant.0

pub pop-requires-clause-named : goal.pop-requires-clause-named
pop-requires-clause-named g c = c.self.invariant.1.named

pub invariant_of-self : goal.invariant_of-self
invariant_of-self g c =
    stays_taking _ c.self.inside.pass c.pop.new.pass c.self.inside.lane.0 c.self.inside.tally c.self.invariant c.pop.ensures.same
    c.in_err-entry.ensures.unchanged

pub returns-clause-name : goal.returns-clause-name
returns-clause-name g c =
    same_name (arc_value c.self.inside.mailbox) c.self.inside.pass c.pop.new.pass c.self.inside.lane.0 _ _ _ c.self.view_is c.pop.ensures.same
    (ap (λ (v : LaneView). v.network) c.in_ok-entry.ensures.taken.is)

pub returns-clause-taken : goal.returns-clause-taken
returns-clause-taken g c = ap (λ (v : LaneView). v.taken) c.in_ok-entry.ensures.taken.is ∙ ap (λ (e : End). e.list ++ c.in_ok-entry.entry ∷ []) c.self.view_is

pub returns-clause-stamped : goal.returns-clause-stamped
returns-clause-stamped g c =
    let took = c.in_ok-entry.ensures.taken in
    (took.stamp, ap (λ (v : LaneView). v.taken_at) took.is ∙ ap (λ (e : End). e.stamps ++ took.stamp ∷ []) c.self.view_is)

pub returns-clause-none : goal.returns-clause-none
returns-clause-none g c = tt
