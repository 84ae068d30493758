use Rattle.mrp_lot.proofs.LotLaws.{lot_for_lot-is_exact}
use Rattle.mrp_lot.proofs.laws.lot_for_lot_is_exact.Goals as goal

pub returns : goal.returns
returns c = lot_for_lot-is_exact
