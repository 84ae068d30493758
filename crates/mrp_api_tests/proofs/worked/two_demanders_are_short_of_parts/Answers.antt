use Rattle.mrp_api_tests.proofs.ShortFacts as computed
use Rattle.mrp_api_tests.proofs.worked.two_demanders_are_short_of_parts.Goals as goal

pub returns : goal.returns
returns c = computed.two_demanders_lack
