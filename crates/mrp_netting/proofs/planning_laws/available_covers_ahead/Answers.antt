use Rattle.mrp_netting.proofs.DataRows.{available_covers_ahead}
use Rattle.mrp_netting.proofs.planning_laws.available_covers_ahead.Goals as goal

pub returns : goal.returns
returns c = available_covers_ahead
