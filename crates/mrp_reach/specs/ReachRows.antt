-- Reach: its report, of how far a plan is whole.
use Rattle.std.specs.Prelude.{ℕ, zero, suc, List, [], ◌∷◌, ◌++◌, decimal, slice_index, codes as text_bytes}
use Rattle.std.specs.List.{flat_map}
use Rattle.mrp_master_data.specs.Table.{Table}
use Rattle.mrp_commands.specs.declared.choice.Heading.{Heading}
use Rattle.mrp_csv_out.specs.Headings.{header_row}
use Rattle.mrp_csv_out.specs.Names.{item_of, pairs_of, plant_of}
use Rattle.mrp_csv_out.specs.Rows.{row}
use Rattle.mrp_reach.specs.Reach.{releases_whole}

-- the names of the columns
abbrev pub reach_names : List (List ℕ)
reach_names =
    text_bytes "row" ∷ text_bytes "plant" ∷ text_bytes "item" ∷ text_bytes "period" ∷ text_bytes "release" ∷ []

-- the last of so many periods, which count from 0
abbrev pub last_text : ℕ → List ℕ
last_text zero = text_bytes "none"
last_text (suc t) = decimal t

-- the fields of a pair's row: the last period of whole requirements, and of whole releases
abbrev pub reach_fields : Table → ℕ → ℕ → List (List ℕ)
reach_fields N x whole =
    text_bytes "reach" ∷ plant_of N x ∷ item_of N x ∷ last_text whole ∷ last_text (releases_whole N x whole) ∷ []

-- that row
unfoldable pub reach_row : Table → List ℕ → ℕ → List ℕ
reach_row N wholes x = row (reach_fields N x (slice_index wholes x))

-- the report: the names of its columns, where they are asked for, and a row of each pair, in table order
unfoldable pub reach_text : Heading → Table → List ℕ → List ℕ
reach_text heading N wholes = header_row heading reach_names ++ flat_map (reach_row N wholes) (pairs_of N)
