use Rattle.std.proofs.Common.{take}
use Rattle.mrp_grouping.specs.Added.{AddsTotals}
use Rattle.mrp_grouping.proofs.sums.add_totals.Given as goal

abbrev pub invariant-loop-row : goal.invariant-loop-row
invariant-loop-row g l = AddsTotals (g.K.KeyOf.key_of l.by) (g.A.AmountOf.amount_of l.of) (take l.row-index l.rows) l.fn.totals l.totals
