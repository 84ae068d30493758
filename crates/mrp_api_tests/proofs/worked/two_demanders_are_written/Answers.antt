use Rattle.mrp_api_tests.proofs.ShortFacts as computed
use Rattle.mrp_api_tests.proofs.worked.two_demanders_are_written.Goals as goal

pub returns : goal.returns
returns c = computed.two_demanders_are_written
