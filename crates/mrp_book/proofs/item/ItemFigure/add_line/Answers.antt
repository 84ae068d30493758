use Rattle.std.proofs.Common.{refl}
use Rattle.mrp_book.proofs.item.ItemFigure.add_line.Goals as goal

pub returns : goal.returns
returns c = refl
