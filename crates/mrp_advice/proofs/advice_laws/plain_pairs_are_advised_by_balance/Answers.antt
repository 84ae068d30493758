use Rattle.mrp_advice.proofs.PlainFacts as proved
use Rattle.mrp_advice.proofs.advice_laws.plain_pairs_are_advised_by_balance.Goals as goal

pub returns : goal.returns
returns c = proved.plain_pairs_are_advised
