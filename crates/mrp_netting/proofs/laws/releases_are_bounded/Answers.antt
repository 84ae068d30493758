use Rattle.mrp_netting.proofs.OneLaws.{one-release_sum-le}
use Rattle.mrp_netting.proofs.laws.releases_are_bounded.Goals as goal

pub returns : goal.returns
returns c = one-release_sum-le
