use Rattle.mrp_readiness.proofs.Counting as proved
use Rattle.mrp_readiness.proofs.readiness_laws.ready_where_nothing_is_open.Goals as goal

pub returns : goal.returns
returns c = proved.ready_where_nothing_is_open
