-- Validation's test that waits for the last row, said once more: each source is to have a row of the pair that it takes
-- from.
use Rattle.std.specs.Prelude.{◌≡◌, List, ◌∷◌, ◌++◌, All, Ok, Err}
use Rattle.mrp_master_data.specs.declared.rows.SourceRow.{SourceRow}
use Rattle.mrp_master_data.specs.Table.{IsPair, source_pair, Table}
use Rattle.mrp_validation.specs.declared.fault.TableFaultKind.TheVariants as fault
use Rattle.mrp_validation.specs.Reading.{pair_row_number, waiting}

-- the pair that the source takes from has a row
abbrev pub HasPair : Table → SourceRow → Type 0
HasPair N s = IsPair N (source_pair N s)

-- where all have one the table is taken, and else refused at the row of the pair of the first source that has none
pub record TellsMissing (N : Table) : Type 0 where
  pub none : All (HasPair N) N.sources → waiting N ≡ Ok N
  pub first : (above below : List SourceRow) (s : SourceRow) → N.sources ≡ above ++ s ∷ below → All (HasPair N) above
      → ¬ (HasPair N s)
      → waiting N ≡ Err (record { row = pair_row_number N s.pair.0; kind = fault.UnknownPair })
