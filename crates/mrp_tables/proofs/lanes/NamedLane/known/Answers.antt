use Rattle.std.proofs.Common.{rules}
use Rattle.mrp_tables.specs.Lists.{known_found}
use Rattle.mrp_tables.proofs.lanes.NamedLane.known.Goals as goal

pub returns-clause-exact : goal.returns-clause-exact
unfolding known_found
returns-clause-exact c = search rules

pub returns-clause-place : goal.returns-clause-place
returns-clause-place c = search rules
