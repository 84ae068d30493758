use Rattle.mrp_plan.proofs.Adding as proved
use Rattle.mrp_plan.proofs.laws.terms_add_up.Goals as goal

pub returns-clause-sum : goal.returns-clause-sum
returns-clause-sum c = proved.terms_add_up

pub returns-clause-product : goal.returns-clause-product
returns-clause-product c = proved.terms_are_products

pub returns-clause-whole : goal.returns-clause-whole
returns-clause-whole c = proved.whole_terms_are_products
