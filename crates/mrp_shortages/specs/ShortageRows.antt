-- Shortages: their report, which is the requirements of period 0 that lack pieces.
use Rattle.std.specs.Prelude.{ℕ, List, [], ◌∷◌, ◌++◌, decimal, codes as text_bytes}
use Rattle.std.specs.List.{flat_map}
use Rattle.mrp_netting.specs.PlanRows.{PlanRows}
use Rattle.mrp_master_data.specs.Table.{Table}
use Rattle.mrp_commands.specs.declared.choice.Heading.{Heading}
use Rattle.mrp_plan.specs.declared.terms.PegSource.{PegSource}
use Rattle.mrp_plan.specs.declared.terms.PegSource.TheVariants.{Demand, Bill, Plant}
use Rattle.mrp_csv_out.specs.Headings.{header_row}
use Rattle.mrp_csv_out.specs.Names.{item_of, pairs_of, plant_of}
use Rattle.mrp_csv_out.specs.Rows.{row}
use Rattle.mrp_shortages.specs.declared.shortage.Shortage.{Shortage}
use Rattle.mrp_shortages.specs.Shortages.{shortages_of}

-- the names of the columns
abbrev pub shortage_names : List (List ℕ)
shortage_names =
    text_bytes "row" ∷ text_bytes "plant" ∷ text_bytes "item" ∷ text_bytes "source" ∷ text_bytes "by_plant"
    ∷ text_bytes "by_item"
    ∷ text_bytes "quantity" ∷ text_bytes "short" ∷ []

-- what a row calls the source of a term
abbrev pub source_word : PegSource → List ℕ
source_word Demand = text_bytes "demand"
source_word Bill = text_bytes "bill"
source_word Plant = text_bytes "plant"

-- the fields of the row of a shortage: the pair that lacks pieces, where the requirement comes from, the pair that asks,
-- how many pieces, and how many of them are missing
abbrev pub shortage_fields : Table → List ℕ → List ℕ → Shortage → List (List ℕ)
shortage_fields N plant item shortage =
    text_bytes "shortage" ∷ plant ∷ item ∷ source_word shortage.term.source ∷ plant_of N shortage.term.pair.0
    ∷ item_of N shortage.term.pair.0
    ∷ decimal shortage.term.quantity ∷ decimal shortage.short ∷ []

-- that row
unfoldable pub shortage_row : Table → List ℕ → List ℕ → Shortage → List ℕ
shortage_row N plant item shortage = row (shortage_fields N plant item shortage)

-- the rows of a pair's shortages, in the order of its terms
unfoldable pub pair_shortages_text : Table → List PlanRows → ℕ → List ℕ
pair_shortages_text N table x = flat_map (shortage_row N (plant_of N x) (item_of N x)) (shortages_of N table x)

-- those of each pair, in table order
unfoldable pub shortages_text : Table → List PlanRows → List ℕ
shortages_text N table = flat_map (pair_shortages_text N table) (pairs_of N)

-- the report: the names of its columns, where they are asked for, and the shortages
unfoldable pub shortage_text : Heading → Table → List PlanRows → List ℕ
shortage_text heading N table = header_row heading shortage_names ++ shortages_text N table
