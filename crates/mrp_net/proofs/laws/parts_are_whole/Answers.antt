use Rattle.mrp_net.proofs.Needs.{needs_are_whole}
use Rattle.mrp_net.proofs.Sharing.{parts_are_whole}
use Rattle.mrp_net.proofs.laws.parts_are_whole.Goals as goal

pub returns-clause-parts : goal.returns-clause-parts
returns-clause-parts c = parts_are_whole

pub returns-clause-needs : goal.returns-clause-needs
returns-clause-needs c = needs_are_whole
