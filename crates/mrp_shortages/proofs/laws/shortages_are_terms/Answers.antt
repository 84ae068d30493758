use Rattle.mrp_shortages.proofs.Lacking as proved
use Rattle.mrp_shortages.proofs.laws.shortages_are_terms.Goals as goal

pub returns-clause-pieces : goal.returns-clause-pieces
returns-clause-pieces c = proved.shortages_are_of_terms

pub returns-clause-order : goal.returns-clause-order
returns-clause-order c = proved.shortages_are_terms_in_order
