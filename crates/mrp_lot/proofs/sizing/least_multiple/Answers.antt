use Rattle.std.proofs.Common.{◌*◌, ◌∙◌, ap}
use Rattle.mrp_lot.proofs.LotLaws.{least_multiple-from_div_ceil}
use Rattle.mrp_lot.proofs.sizing.least_multiple.Goals as goal

pub returns : goal.returns
returns c =
    c.of.ensures ∙ ap (λ k. k * c.args.lot) c.div_ceil.ensures
    ∙ least_multiple-from_div_ceil c.args.quantity c.args.lot c.requires.some
