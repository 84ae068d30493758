use Rattle.std.proofs.Common.{◌≤◌, take}
use Rattle.mrp_world.specs.Moves.{Runs}
use Rattle.mrp_world.proofs.world.World.run.Given as goal

-- the events so far have happened, and no more steps are left
abbrev pub invariant-loop-event : goal.invariant-loop-event
invariant-loop-event g l = record {
  runs : Runs g.P.Plant.shows l.initial.self (take l.event-index l.events) l.self;
  left : l.self.left ≤ l.initial.self.left;
}
