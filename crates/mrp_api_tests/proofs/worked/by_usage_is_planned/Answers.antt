use Rattle.mrp_api_tests.proofs.UsageFacts as proved
use Rattle.mrp_api_tests.proofs.worked.by_usage_is_planned.Goals as goal

pub returns : goal.returns
returns c = proved.by_usage_is_planned
