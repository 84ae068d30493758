use Rattle.std.proofs.Common.{◌≡◌, drop}
use Rattle.mrp_net.specs.Usages.{whole, in_force}
use Rattle.mrp_net.proofs.usages.usage_in.Given as goal

-- by the rows that are left, what is in force is what is in force by all
abbrev pub invariant-loop-row : goal.invariant-loop-row
invariant-loop-row l = in_force l.t l.usage (drop l.row-index l.rows) ≡ in_force l.t (whole l.per) l.rows
