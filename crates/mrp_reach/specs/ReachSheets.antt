-- Reach: its report as a sheet, and what a reader of comma-separated values has to find in it.
use Rattle.std.specs.Prelude.{ℕ, List, ◌++◌, map, slice_index}
use Rattle.mrp_master_data.specs.Table.{Table, IsTable}
use Rattle.mrp_commands.specs.declared.choice.Heading.{Heading}
use Rattle.mrp_csv_out.specs.Names.{pairs_of}
use Rattle.mrp_csv_out.specs.Sheets.{IsReadAs, Sheet, header_sheet}
use Rattle.mrp_reach.specs.ReachRows.{reach_fields, reach_names, reach_text}

-- the fields of each pair's row, in table order, below the names of their columns, where these are asked for
abbrev pub reach_sheet : Heading → Table → List ℕ → Sheet
reach_sheet heading N wholes = header_sheet heading reach_names
    ++ map (λ x. reach_fields N x (slice_index wholes x)) (pairs_of N)

-- what csv reads of the report is exactly the fields that its rows are made of
abbrev pub ReachIsReadBack : Type 0
ReachIsReadBack = (N : Table) → IsTable N → (heading : Heading) (wholes : List ℕ)
    → IsReadAs (reach_text heading N wholes) (reach_sheet heading N wholes)
