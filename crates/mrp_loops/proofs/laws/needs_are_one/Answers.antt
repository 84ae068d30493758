use Rattle.mrp_loops.proofs.Ordered.{needs_exist}
use Rattle.mrp_loops.proofs.Upstream.{needs_are_one}
use Rattle.mrp_loops.proofs.laws.needs_are_one.Goals as goal

pub returns-clause-exist : goal.returns-clause-exist
returns-clause-exist c = needs_exist

pub returns-clause-one : goal.returns-clause-one
returns-clause-one c = needs_are_one
