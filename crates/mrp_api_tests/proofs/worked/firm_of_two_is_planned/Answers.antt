use Rattle.mrp_api_tests.proofs.WorkedFacts as proved
use Rattle.mrp_api_tests.proofs.worked.firm_of_two_is_planned.Goals as goal

pub returns : goal.returns
returns c = proved.firm_of_two_is_planned
