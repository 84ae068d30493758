use Rattle.mrp_net.proofs.Needs as proved
use Rattle.mrp_net.proofs.laws.needs_are_rounded_up.Goals as goal

pub returns-clause-rounded : goal.returns-clause-rounded
returns-clause-rounded c = proved.needs_are_rounded_up

pub returns-clause-products : goal.returns-clause-products
returns-clause-products c = proved.whole_needs_are_products

pub returns-clause-none : goal.returns-clause-none
returns-clause-none c = proved.none_ask_for_none
