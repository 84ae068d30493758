use Rattle.mrp_net.proofs.Needs.{mosts_are_the_least, mosts_cover_needs}
use Rattle.mrp_net.proofs.laws.mosts_are_the_least.Goals as goal

pub returns-clause-least : goal.returns-clause-least
returns-clause-least c = mosts_are_the_least

pub returns-clause-needs : goal.returns-clause-needs
returns-clause-needs c = mosts_cover_needs
