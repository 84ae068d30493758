use Rattle.std.proofs.Common.{take}
use Rattle.mrp_grouping.specs.Added.{AddsTotals}
use Rattle.mrp_net.specs.Sources.{source_no}
use Rattle.mrp_net.proofs.lanes.add_figures.Given as goal

abbrev pub invariant-loop-cum : goal.invariant-loop-cum
invariant-loop-cum l = AddsTotals (λ c. source_no l.tables c.pair.0 c.from.0) (λ c. c.figure) (take l.cum-index l.cum-items) l.fn.figures l.figures
