use Rattle.mrp_api_tests.proofs.VendorFacts as proved
use Rattle.mrp_api_tests.proofs.worked.customer_is_asked_for.Goals as goal

pub returns : goal.returns
returns c = proved.customer_is_asked_for
