use Rattle.mrp_advice.proofs.Kept as proved
use Rattle.mrp_advice.proofs.advice_laws.cancelled_orders_change_nothing.Goals as goal

pub returns : goal.returns
returns c = proved.cancelled_orders_change_nothing
