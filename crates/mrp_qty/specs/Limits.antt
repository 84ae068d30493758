-- Quantities and limits: the two sets of limits that a table may be read within.
use Rattle.std.specs.Prelude.{ℕ, ◌+◌, ◌-◌, ◌*◌}
use Rattle.mrp_qty.specs.declared.limits.LimitSet.{LimitSet}
use Rattle.mrp_qty.specs.declared.limits.LimitSet.TheVariants as set
use Rattle.mrp_qty.specs.declared.limits.Limits.{Limits}
use Rattle.mrp_qty.specs.declared.limits.TheConstants.{LARGE, USUAL}

-- the limits of a set, each as a number
abbrev pub limits_of : LimitSet → Limits
limits_of set.Usual = USUAL
limits_of set.Large = LARGE

-- the rows of a table that has as many of each kind as it may have: the run, plants, pairs with their policies and
-- vendors, bills and usages, demands, the four kinds of equal number, resets, first days of all periods but the first
-- one, and the `end` row
abbrev pub rows_within : Limits → ℕ
rows_within l =
    1 + l.plants + 3 * l.pairs + 2 * l.bills + l.demands + 4 * l.of_a_kind + l.sources + (l.periods - 1) + 1
