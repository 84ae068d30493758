use Rattle.std.proofs.Common.{subst}
use Rattle.mrp_lane.specs.Ends.{End, HasLegalList}
use Rattle.mrp_lane.proofs.take.TakeEnd.lane.Goals as goal

pub returns-clause-legal : goal.returns-clause-legal
returns-clause-legal c = subst (λ (e : End). HasLegalList e) c.self.view_is c.self.invariant.1.legal
