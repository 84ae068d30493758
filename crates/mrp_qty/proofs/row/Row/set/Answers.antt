use Rattle.std.proofs.Common.{ℕ, List, slice_set, ap}
use Rattle.mrp_qty.proofs.row.Row.set.Goals as goal

pub returns : goal.returns
returns c = ap (λ (row : List ℕ). slice_set row c.args.t c.args.quantity) c.self.view_is
