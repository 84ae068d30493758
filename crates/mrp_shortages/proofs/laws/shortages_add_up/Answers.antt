use Rattle.mrp_shortages.proofs.Lacking as proved
use Rattle.mrp_shortages.proofs.laws.shortages_add_up.Goals as goal

pub returns-clause-all : goal.returns-clause-all
returns-clause-all c = proved.shortages_add_up

pub returns-clause-first : goal.returns-clause-first
returns-clause-first c = proved.shortages_add_up_so_far
