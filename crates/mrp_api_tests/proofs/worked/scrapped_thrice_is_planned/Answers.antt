use Rattle.mrp_api_tests.proofs.UsageFacts as proved
use Rattle.mrp_api_tests.proofs.worked.scrapped_thrice_is_planned.Goals as goal

pub returns : goal.returns
returns c = proved.scrapped_thrice_is_planned
