use Rattle.mrp_api_tests.proofs.PolicyFacts as proved
use Rattle.mrp_api_tests.proofs.worked.by_policy_is_advised.Goals as goal

pub returns : goal.returns
returns c = proved.by_policy_is_advised
