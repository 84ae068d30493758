use Rattle.mrp_api_tests.proofs.WorkedFacts as proved
use Rattle.mrp_api_tests.proofs.worked.bicycle_is_written.Goals as goal

pub returns : goal.returns
returns c = proved.bicycle_is_written
