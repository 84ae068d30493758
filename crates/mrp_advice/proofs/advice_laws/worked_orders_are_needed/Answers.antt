use Rattle.std.proofs.Common.{refl}
use Rattle.mrp_netting.specs.PlanningData.{short}
use Rattle.mrp_advice.proofs.advice_laws.worked_orders_are_needed.Goals as goal

pub returns-clause-expedited : goal.returns-clause-expedited
unfolding short
returns-clause-expedited c = refl

pub returns-clause-sooner : goal.returns-clause-sooner
unfolding short
returns-clause-sooner c = refl

pub returns-clause-when_due : goal.returns-clause-when_due
unfolding short
returns-clause-when_due c = refl

pub returns-clause-cover : goal.returns-clause-cover
unfolding short
returns-clause-cover c = refl

pub returns-clause-cover_sooner : goal.returns-clause-cover_sooner
unfolding short
returns-clause-cover_sooner c = refl

pub returns-clause-behind_others : goal.returns-clause-behind_others
unfolding short
returns-clause-behind_others c = refl

pub returns-clause-behind_receipts : goal.returns-clause-behind_receipts
unfolding short
returns-clause-behind_receipts c = refl
