use Rattle.mrp_validation.proofs.Asked.{usual}
use Rattle.mrp_validation.proofs.laws.usual_reading_asks_nothing.Goals as goal

pub returns : goal.returns
returns c = usual
