use Rattle.mrp_api_tests.proofs.FirmOrderFacts as proved
use Rattle.mrp_api_tests.proofs.worked.firm_and_planned_is_planned.Goals as goal

pub returns : goal.returns
returns c = proved.firm_and_planned_is_planned
