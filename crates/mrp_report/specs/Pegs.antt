-- The report of the pegging of a whole plan.
use Rattle.std.specs.Prelude.{ℕ, List, [], ◌∷◌, decimal, codes as text_bytes}
use Rattle.std.specs.List.{flat_map, range_with_len}
use Rattle.mrp_netting.specs.PlanRows.{PlanRows}
use Rattle.mrp_master_data.specs.Table.{Table, horizon}
use Rattle.mrp_plan.specs.Peg.{peg_terms}
use Rattle.mrp_plan.specs.declared.terms.PegTerm.{PegTerm}
use Rattle.mrp_csv_out.specs.Names.{item_of, pairs_of, plant_of}
use Rattle.mrp_csv_out.specs.Rows.{row}
use Rattle.mrp_report.specs.Terms.{per_text, source_word}

-- the fields of the row of a term of a pair's gross requirement in a period: the pair and the period, where the
-- requirement comes from, the pair that asks, its release, the pieces for each or for so many of it, and what is asked
abbrev pub pegs_fields : Table → ℕ → ℕ → PegTerm → List (List ℕ)
pegs_fields N x t term =
    text_bytes "pegs" ∷ plant_of N x ∷ item_of N x ∷ decimal t ∷ source_word term.source ∷ plant_of N term.pair.0
    ∷ item_of N term.pair.0
    ∷ decimal term.release ∷ per_text term.per term.base ∷ decimal term.quantity ∷ []

-- that row
unfoldable pub pegs_row : Table → ℕ → ℕ → PegTerm → List ℕ
pegs_row N x t term = row (pegs_fields N x t term)

-- the rows of a pair in a period: the terms of its gross requirement there, in their order
unfoldable pub period_pegs_text : Table → List PlanRows → ℕ → ℕ → List ℕ
period_pegs_text N table x t = flat_map (pegs_row N x t) (peg_terms N table x t)

-- the rows of a pair, in rising period
unfoldable pub pair_pegs_text : Table → List PlanRows → ℕ → List ℕ
pair_pegs_text N table x = flat_map (period_pegs_text N table x) (range_with_len 0 (horizon N))

-- the report: the rows of each pair, in table order
unfoldable pub pegs_text : Table → List PlanRows → List ℕ
pegs_text N table = flat_map (pair_pegs_text N table) (pairs_of N)
