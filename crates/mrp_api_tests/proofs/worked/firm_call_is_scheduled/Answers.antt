use Rattle.mrp_api_tests.proofs.FirmOrderFacts as proved
use Rattle.mrp_api_tests.proofs.worked.firm_call_is_scheduled.Goals as goal

pub returns : goal.returns
returns c = proved.firm_call_is_scheduled
