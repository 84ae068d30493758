use Rattle.mrp_api_tests.proofs.VendorFacts as proved
use Rattle.mrp_api_tests.proofs.worked.working_days_are_planned.Goals as goal

pub returns : goal.returns
returns c = proved.working_days_are_planned
