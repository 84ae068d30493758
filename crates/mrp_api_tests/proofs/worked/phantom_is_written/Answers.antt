use Rattle.mrp_api_tests.proofs.ShortFacts as computed
use Rattle.mrp_api_tests.proofs.worked.phantom_is_written.Goals as goal

pub returns : goal.returns
returns c = computed.phantom_is_written
