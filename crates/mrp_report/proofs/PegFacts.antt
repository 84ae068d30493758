-- The report of pegs: rows of the pegging of a whole plan by their parts.
use Rattle.std.proofs.Common.{◌≡◌, ◌≤◌, ℕ, true, false, Bool, cond, List, [], ◌∷◌, ◌++◌, length, map, refl, sym, ap, ◌∙◌, arith, append_assoc, eq-eqb}
use Rattle.std.specs.List.{filter, flat_map}
use Rattle.std.proofs.lemmas.Bool.{ne_eqb}
use Rattle.std.proofs.lemmas.List.Folds.{flat_map-map}
use Rattle.mrp_netting.specs.PlanRows.{PlanRows}
use Rattle.mrp_master_data.specs.Table.{Table}
use Rattle.mrp_net.specs.Edges.{demanders}
use Rattle.mrp_net.specs.declared.edge.Edge.{Edge}
use Rattle.mrp_plan.specs.Peg.{demand_term, edge_term, is_asked}
use Rattle.mrp_plan.specs.declared.terms.PegTerm.{PegTerm}
use Rattle.mrp_plan.specs.declared.terms.PegSource.{PegSource}
use Rattle.mrp_plan.specs.declared.terms.PegSource.TheVariants.{Demand, Bill, Plant}
use Rattle.mrp_csv_out.specs.Names.{item_of, plant_of}
use Rattle.mrp_csv_out.specs.Rows.{row}
use Rattle.mrp_report.specs.Pegs.{pegs_row, period_pegs_text}
use Rattle.mrp_report.specs.PegParts.{edges_text, pegs_part, term_part, term_text}
use Rattle.mrp_report.specs.Terms.{source_word}

-- the row of the parts is the row of the fields
pub pegs_parts_row : (N : Table) (x t : ℕ) (term : PegTerm) → row (pegs_part (plant_of N x) (item_of N x) ∷ term_part N t term ∷ []) ≡ pegs_row N x t term
unfolding pegs_row row
pegs_parts_row N x t term = simp append_assoc refl

-- the word of a source has at most six letters
pub source_short : (source : PegSource) → length (source_word source) ≤ 6
source_short Demand = omega arith
source_short Bill = omega arith
source_short Plant = omega arith

-- a term has no row where it is 0
pub none_asked : (N : Table) (x t : ℕ) (term : PegTerm) → term.quantity ≡ 0 → [] ≡ term_text N x t term
none_asked N x t term none = rw (eq-eqb term.quantity 0 none) refl

-- and else its own
pub row_asked : (N : Table) (x t : ℕ) (term : PegTerm) → (term.quantity ≡ 0 → ⊥) → pegs_row N x t term ≡ term_text N x t term
row_asked N x t term some = rw (ne_eqb term.quantity 0 some) refl

-- the rows of terms that aren't zero, term by term
kept_text : (f : PegTerm → List ℕ) (term : PegTerm) (terms : List PegTerm) (asked : Bool)
    → flat_map f (cond asked (term ∷ filter is_asked terms) (filter is_asked terms)) ≡ cond asked (f term) [] ++ flat_map f (filter is_asked terms)
kept_text f term terms true = refl
kept_text f term terms false = refl

asked_text : (N : Table) (x t : ℕ) (terms : List PegTerm) → flat_map (pegs_row N x t) (filter is_asked terms) ≡ flat_map (term_text N x t) terms
asked_text N x t [] = refl
asked_text N x t (term ∷ terms) =
    kept_text (pegs_row N x t) term terms (is_asked term) ∙ ap (λ text. term_text N x t term ++ text) (asked_text N x t terms)

-- the rows of a pair in a period: of its demand rows, and of what its demanders ask
pub period_split : (N : Table) (table : List PlanRows) (x t : ℕ)
    → term_text N x t (demand_term N x t) ++ edges_text N table x t (demanders N x) ≡ period_pegs_text N table x t
unfolding period_pegs_text edges_text
period_split N table x t =
    ap (λ text. term_text N x t (demand_term N x t) ++ text) (sym (flat_map-map (term_text N x t) (edge_term N table t) (demanders N x)))
    ∙ sym (asked_text N x t (demand_term N x t ∷ map (edge_term N table t) (demanders N x)))

pub period_parts : (N : Table) (table : List PlanRows) (x t : ℕ) (term : PegTerm) (edges : List Edge) → term ≡ demand_term N x t → edges ≡ demanders N x
    → term_text N x t term ++ edges_text N table x t edges ≡ period_pegs_text N table x t
period_parts N table x t term edges is are =
    ap (λ p. term_text N x t p ++ edges_text N table x t edges) is ∙ ap (λ es. term_text N x t (demand_term N x t) ++ edges_text N table x t es) are
    ∙ period_split N table x t
