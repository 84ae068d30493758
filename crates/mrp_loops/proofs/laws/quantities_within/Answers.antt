use Rattle.mrp_loops.proofs.Within as within
use Rattle.mrp_loops.proofs.laws.quantities_within.Goals as goal

pub returns-clause-together : goal.returns-clause-together
returns-clause-together c = within.plans_within

pub returns-clause-given : goal.returns-clause-given
returns-clause-given c = within.data_within

pub returns-clause-each : goal.returns-clause-each
returns-clause-each c = within.quantities_within
