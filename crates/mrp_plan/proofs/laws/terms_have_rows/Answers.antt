use Rattle.mrp_plan.proofs.Adding as proved
use Rattle.mrp_plan.proofs.laws.terms_have_rows.Goals as goal

pub returns : goal.returns
returns c = proved.terms_have_rows
