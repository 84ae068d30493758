-- Reading a table: how many steps it has taken where it answers a fault.
use Rattle.std.specs.Prelude.{◌≡◌, ◌⊎◌, ℕ, ◌+◌, max, List, length}
use Rattle.mrp_master_data.specs.Table.{Table}
use Rattle.mrp_master_data.specs.Turns.{row_count}
use Rattle.mrp_validation.specs.declared.fault.TableFault.{TableFault}
use Rattle.mrp_validation.specs.declared.fault.TableFaultKind.{TableFaultKind}
use Rattle.mrp_validation.specs.declared.fault.TableFaultKind.TheVariants as fault

-- a missing pair may be told after the last row, whichever row it names; each other fault is told at the row that it
-- names
abbrev pub UnlessMissing : TableFaultKind → Type 0 → Type 0
UnlessMissing fault.UnknownPair says = Unit {0}
UnlessMissing e says = says

-- one for each row up to the named one, and one at least, or one for each row and one for the end
abbrev pub StepsTo : ℕ → ℕ → ℕ → List (List (List ℕ)) → Type 0
StepsTo old new row rows = (new ≡ old + max 1 row) ⊎ (new ≡ old + length rows + 1)

-- a fault that is told after the last row: a missing pair, or that the table was cut off there
abbrev pub HasWaited : Table → TableFault → Type 0
HasWaited N e = (e.kind ≡ fault.UnknownPair) ⊎ ((e.kind ≡ fault.Cut) × (e.row ≡ row_count N + 1))
