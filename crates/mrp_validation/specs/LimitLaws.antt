-- Validation within the two sets of limits: a table within the greater one, and faults that are no matter of limits.
use Rattle.mrp_master_data.specs.Table.{Table}
use Rattle.mrp_qty.specs.declared.limits.LimitSet.TheVariants as set
use Rattle.mrp_validation.specs.declared.fault.TableFaultKind.{TableFaultKind}
use Rattle.mrp_validation.specs.declared.fault.TableFaultKind.TheVariants as fault

-- the table, within the large limits
abbrev pub as_large : Table → Table
as_large N = record N { limits = set.Large }

-- the tests of three faults depend on the limits: of one row too many, of a number in its range, and of the periods
-- that a lot rule covers
abbrev pub IsNoMatterOfLimits : TableFaultKind → Type 0
IsNoMatterOfLimits fault.TooMany = ⊥
IsNoMatterOfLimits fault.BadNumber = ⊥
IsNoMatterOfLimits fault.BadRule = ⊥
IsNoMatterOfLimits e = Unit {0}
