use Rattle.mrp_api_tests.proofs.VendorFacts as proved
use Rattle.mrp_api_tests.proofs.worked.over_new_year_is_written.Goals as goal

pub returns : goal.returns
returns c = proved.over_new_year_is_written
