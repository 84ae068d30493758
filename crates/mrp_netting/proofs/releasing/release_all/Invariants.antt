use Rattle.mrp_netting.specs.PlanningBound.{data_of}
use Rattle.mrp_netting.proofs.ReleaseSteps.{IsReleasedTo}
use Rattle.mrp_netting.proofs.releasing.release_all.Given as goal

-- the orders that are due before t are released
abbrev pub invariant-loop-t : goal.invariant-loop-t
invariant-loop-t l = IsReleasedTo (data_of l.given l.gross) l.order l.release l.t
