use Rattle.std.proofs.Common.{take}
use Rattle.mrp_grouping.specs.Added.{AddsAmounts}
use Rattle.mrp_grouping.proofs.sums.add_amounts.Given as goal

abbrev pub invariant-loop-row : goal.invariant-loop-row
invariant-loop-row g l = AddsAmounts (g.K.KeyOf.key_of l.by) (g.L.KeyOf.key_of l.second) (g.A.AmountOf.amount_of l.of) l.width
    (take l.row-index l.rows) l.fn.amounts l.amounts
