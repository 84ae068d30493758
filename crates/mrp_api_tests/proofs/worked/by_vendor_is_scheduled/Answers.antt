use Rattle.mrp_api_tests.proofs.VendorFacts as proved
use Rattle.mrp_api_tests.proofs.worked.by_vendor_is_scheduled.Goals as goal

pub returns : goal.returns
returns c = proved.by_vendor_is_scheduled
