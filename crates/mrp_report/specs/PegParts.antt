-- The report of pegs: a row of the pegging of a whole plan in two parts, each as one text.
use Rattle.std.specs.Prelude.{◌≡◌, ◌≤◌, ℕ, if◌then◌else◌, List, [], ◌∷◌, length, decimal, codes as text_bytes}
use Rattle.std.specs.List.{flat_map}
use Rattle.mrp_netting.specs.PlanRows.{PlanRows}
use Rattle.mrp_master_data.specs.Table.{IsPair, IsTable, Table}
use Rattle.mrp_net.specs.PlanLaws.{Fits}
use Rattle.mrp_net.specs.declared.edge.Edge.{Edge}
use Rattle.mrp_plan.specs.Peg.{edge_term, is_asked}
use Rattle.mrp_plan.specs.declared.terms.PegTerm.{PegTerm}
use Rattle.mrp_csv_out.specs.Names.{item_of, plant_of}
use Rattle.mrp_csv_out.specs.Writing.{joined}
use Rattle.mrp_report.specs.declared.pegging.PegLine.{PegLine}
use Rattle.mrp_report.specs.declared.room.TheConstants.{LONGEST_PAIR}
use Rattle.mrp_report.specs.Pegs.{pegs_row}
use Rattle.mrp_report.specs.Terms.{per_text, source_word}

-- what all rows of a pair begin with: the word, its plant and its item
abbrev pub pegs_part : List ℕ → List ℕ → List ℕ
pegs_part plant item = joined (text_bytes "pegs" ∷ plant ∷ item ∷ [])

-- what a row has of its term: the period, where the requirement comes from, who asks, and for how much
abbrev pub term_part : Table → ℕ → PegTerm → List ℕ
term_part N t term =
    joined (decimal t ∷ source_word term.source ∷ plant_of N term.pair.0 ∷ item_of N term.pair.0
    ∷ decimal term.release ∷ per_text term.per term.base ∷ decimal term.quantity ∷ [])

-- the row of a term, if it asks for anything
abbrev pub term_text : Table → ℕ → ℕ → PegTerm → List ℕ
term_text N x t term = if is_asked term then pegs_row N x t term else []

-- the rows of what edges ask, in their order
unfoldable pub edges_text : Table → List PlanRows → ℕ → ℕ → List Edge → List ℕ
edges_text N table x t edges = flat_map (λ e. term_text N x t (edge_term N table t e)) edges

-- what the rows of a pair have in common
pub record IsPegLine (line : PegLine) : Type 0 where
  pub table : IsTable line.network.now
  pub fits : Fits line.network.now line.plan.now
  pub pair : IsPair line.network.now line.x.0
  pub part : line.begins.now ≡ pegs_part (plant_of line.network.now line.x.0) (item_of line.network.now line.x.0)
  pub short : length line.begins.now ≤ LONGEST_PAIR
