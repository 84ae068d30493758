use Rattle.mrp_run.specs.Ends.{HaveFirst}
use Rattle.mrp_run.proofs.dealing.ready_plants.Given as goal

-- the lanes so far are dealt
abbrev pub invariant-loop-l : goal.invariant-loop-l
invariant-loop-l g l = HaveFirst l.net.network l.capacity l.l l.plants.items
