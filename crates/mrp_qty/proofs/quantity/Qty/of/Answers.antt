use Rattle.std.proofs.Common.{refl}
use Rattle.mrp_qty.proofs.quantity.Qty.of.Goals as goal

pub returns : goal.returns
returns c = refl
