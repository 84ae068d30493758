use Rattle.mrp_lot.proofs.LotLaws.{lot-covers}
use Rattle.mrp_lot.proofs.laws.lot_covers.Goals as goal

pub returns : goal.returns
returns c = lot-covers
