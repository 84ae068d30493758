-- The report of a gross requirement: the rows of its terms.
use Rattle.std.specs.Prelude.{ℕ, ◌==◌, if◌then◌else◌, List, [], ◌∷◌, ◌++◌, decimal, codes as text_bytes}
use Rattle.std.specs.List.{flat_map}
use Rattle.mrp_master_data.specs.Table.{Table}
use Rattle.mrp_plan.specs.declared.terms.PegTerm.{PegTerm}
use Rattle.mrp_plan.specs.declared.terms.PegSource.{PegSource}
use Rattle.mrp_plan.specs.declared.terms.PegSource.TheVariants.{Demand, Bill, Plant}
use Rattle.mrp_csv_out.specs.Rows.{row}
use Rattle.mrp_csv_out.specs.Names.{item_of, plant_of}

-- what the row of a term calls its source
abbrev pub source_word : PegSource → List ℕ
source_word Demand = text_bytes "demand"
source_word Bill = text_bytes "bill"
source_word Plant = text_bytes "plant"

-- so many pieces for each parent, or for so many parents
abbrev pub per_text : ℕ → ℕ → List ℕ
per_text per base = if base == 1 then decimal per else decimal per ++ (text_bytes "/" ++ decimal base)

-- the fields of the row of a term of a gross requirement
abbrev pub peg_fields : Table → PegTerm → List (List ℕ)
peg_fields N term =
    text_bytes "peg" ∷ source_word term.source ∷ plant_of N term.pair.0 ∷ item_of N term.pair.0
    ∷ decimal term.release ∷ per_text term.per term.base ∷ decimal term.quantity ∷ []

-- that row
unfoldable pub peg_row : Table → PegTerm → List ℕ
peg_row N term = row (peg_fields N term)

-- the report of the terms, in their order
unfoldable pub peg_text : Table → List PegTerm → List ℕ
peg_text N terms = flat_map (peg_row N) terms
