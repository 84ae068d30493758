use Rattle.std.proofs.lemmas.List.{get_or_read}
use Rattle.mrp_qty.proofs.row.Row.get.Goals as goal

pub returns : goal.returns
returns c =
    let row = c.self.inside.amounts.items in
    rw (← c.self.view_is) (get_or_read row c.args.t _ (rw c.self.view_is c.requires) c.index.ensures 0)
