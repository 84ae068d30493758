use Rattle.mrp_api_tests.proofs.VendorFacts as proved
use Rattle.mrp_api_tests.proofs.worked.two_vendors_are_written.Goals as goal

pub returns : goal.returns
returns c = proved.two_vendors_are_written
