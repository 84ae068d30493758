use Rattle.mrp_netting.proofs.RulesLaws.{periods-is_greatest}
use Rattle.mrp_netting.proofs.laws.periods_is_greatest.Goals as goal

pub returns : goal.returns
returns c = periods-is_greatest
