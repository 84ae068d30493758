-- The report of low-level codes, row by row.
use Rattle.std.specs.Prelude.{ℕ, List, [], ◌∷◌, slice_index, decimal, codes as text_bytes}
use Rattle.std.specs.List.{flat_map}
use Rattle.mrp_master_data.specs.Table.{Table}
use Rattle.mrp_csv_out.specs.Rows.{row}
use Rattle.mrp_csv_out.specs.Names.{item_of, pairs_of, plant_of}

-- the fields of the row of a pair's low-level code
abbrev pub code_fields : List ℕ → List ℕ → ℕ → List (List ℕ)
code_fields plant item code = text_bytes "code" ∷ plant ∷ item ∷ decimal code ∷ []

-- that row
unfoldable pub code_row : List ℕ → List ℕ → ℕ → List ℕ
code_row plant item code = row (code_fields plant item code)

-- the report of the low-level codes of all pairs, in table order
unfoldable pub code_text : Table → List ℕ → List ℕ
code_text N codes = flat_map (λ x. code_row (plant_of N x) (item_of N x) (slice_index codes x)) (pairs_of N)
