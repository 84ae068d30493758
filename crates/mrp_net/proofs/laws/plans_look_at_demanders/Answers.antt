use Rattle.mrp_net.proofs.Covering.{plans_look_at_demanders}
use Rattle.mrp_net.proofs.laws.plans_look_at_demanders.Goals as goal

pub returns : goal.returns
returns c = plans_look_at_demanders
