use Rattle.std.proofs.Common.{◌≡◌, drop}
use Rattle.mrp_net.specs.Usages.{most_per}
use Rattle.mrp_net.proofs.usages.most_per.Given as goal

-- by the rows that are left, the greatest number is that of all
abbrev pub invariant-loop-row : goal.invariant-loop-row
invariant-loop-row l = most_per l.most (drop l.row-index l.rows) ≡ most_per l.per l.rows
