use Rattle.mrp_netting.proofs.DataRows.{fence_holds_releases}
use Rattle.mrp_netting.proofs.planning_laws.fence_holds_releases.Goals as goal

pub returns : goal.returns
returns c = fence_holds_releases
