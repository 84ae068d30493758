use Rattle.mrp_api_tests.proofs.PumpsFacts as proved
use Rattle.mrp_api_tests.proofs.worked.pumps_are_ordered.Goals as goal

pub returns : goal.returns
returns c = proved.pumps_are_ordered
