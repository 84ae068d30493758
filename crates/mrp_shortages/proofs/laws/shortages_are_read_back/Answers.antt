use Rattle.mrp_shortages.proofs.SheetFacts.{shortages_are_read}
use Rattle.mrp_shortages.proofs.laws.shortages_are_read_back.Goals as goal

pub returns : goal.returns
returns c = shortages_are_read
