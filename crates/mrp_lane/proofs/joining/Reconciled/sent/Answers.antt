use Rattle.std.proofs.Common.{subst}
use Rattle.mrp_lane.specs.Reconciled.{Carried}
use Rattle.mrp_lane.specs.Views.{IsLegal}
use Rattle.mrp_lane.proofs.joining.Reconciled.sent.Goals as goal

pub returns-clause-legal : goal.returns-clause-legal
returns-clause-legal c = subst (λ (r : Carried). IsLegal r.network r.lane r.sent) c.self.view_is c.self.invariant.legal_sent
