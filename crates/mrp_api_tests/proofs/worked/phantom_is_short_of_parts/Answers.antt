use Rattle.mrp_api_tests.proofs.ShortFacts as computed
use Rattle.mrp_api_tests.proofs.worked.phantom_is_short_of_parts.Goals as goal

pub returns : goal.returns
returns c = computed.phantom_lacks
