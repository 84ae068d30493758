use Rattle.mrp_advice.proofs.SheetFacts as proved
use Rattle.mrp_advice.proofs.advice_laws.advice_is_read_back.Goals as goal

pub returns : goal.returns
returns c = proved.advice_is_read
