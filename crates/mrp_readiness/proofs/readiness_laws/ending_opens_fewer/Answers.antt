use Rattle.mrp_readiness.proofs.Counting as proved
use Rattle.mrp_readiness.proofs.readiness_laws.ending_opens_fewer.Goals as goal

pub returns-clause-fewer : goal.returns-clause-fewer
returns-clause-fewer c = proved.ending_opens_fewer

pub returns-clause-awaited : goal.returns-clause-awaited
returns-clause-awaited c = proved.open_blocks_are_awaited
