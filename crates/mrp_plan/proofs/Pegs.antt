-- The plan of the whole network: in its pegging, what a plan that fits says of a pair's gross requirement
-- and of its demanders' releases.
use Rattle.std.proofs.Common.{◌≡◌, ℕ, ◌<◌, ◌≤◌, List, [], ◌∷◌, ◌++◌, length, map, slice_index, slice_index_or, arith, ap, ◌∙◌, sym, subst}
use Rattle.std.specs.List.{All, filter}
use Rattle.std.proofs.lemmas.List.{get_or_default}
use Rattle.std.proofs.lemmas.List.FromFn.{get_or-map-range_with_len}
use Rattle.std.proofs.lemmas.List.Sums.{get_or-le-sum_by}
use Rattle.mrp_qty.specs.declared.quantity.TheConstants.{MOST}
use Rattle.mrp_netting.specs.PlanRows.{PlanRows}
use Rattle.mrp_master_data.specs.Table.{Table, IsPair, horizon}
use Rattle.mrp_net.specs.Edges.{demanders, edge_need}
use Rattle.mrp_net.specs.Suppliers.{IsEdge}
use Rattle.mrp_net.specs.Sums.{row_of}
use Rattle.mrp_net.specs.Plan.{rows_at, gross}
use Rattle.mrp_net.specs.PlanLaws.{Fits}
use Rattle.mrp_net.specs.declared.edge.Edge.{Edge}
use Rattle.mrp_plan.specs.Peg.{IsPeggable, is_asked, demand_term, edge_term, peg_terms}
use Rattle.mrp_plan.specs.declared.terms.PegTerm.{PegTerm}
use Rattle.std.proofs.lemmas.List.Elements.{All-cons, All-filter, All-map, filter-append}
use Rattle.mrp_plan.proofs.Asked.{no_edge}
use Rattle.mrp_plan.proofs.Planning.{one-gross, pair_plan-release}

pub fitting_gross : (N : Table) (table : List PlanRows) (x : ℕ) → Fits N table → IsPair N x → (rows_at table x).gross ≡ row_of N (gross N table x)
fitting_gross N table x fits in_table = ap (λ (r : PlanRows). r.gross) (fits.rows x in_table) ∙ one-gross N table x

pub fitting_release : (N : Table) (table : List PlanRows) (x : ℕ) → Fits N table → IsPair N x → length (rows_at table x).release ≡ horizon N
fitting_release N table x fits in_table = ap (λ (r : PlanRows). length r.release) (fits.rows x in_table) ∙ pair_plan-release N table x

-- what an edge asks is within the gross requirement
pub term_within : (N : Table) (table : List PlanRows) (x t i : ℕ) → Fits N table → IsPair N x → t < horizon N → i < length (demanders N x)
    → edge_need N (slice_index_or (demanders N x) i no_edge) t (slice_index (rows_at table (slice_index_or (demanders N x) i no_edge).demander.0).release t)
    ≤ slice_index (rows_at table x).gross t
term_within N table x t i fits in_table within edge =
    let at : slice_index (row_of N (gross N table x)) t ≡ gross N table x t =
    get_or-map-range_with_len (gross N table x) 0 (horizon N) t t 0 within (omega arith) in
    omega (
      arith,
      at,
      ap (λ (r : List ℕ). slice_index r t) (fitting_gross N table x fits in_table),
      get_or-le-sum_by (λ (e : Edge). edge_need N e t (slice_index (rows_at table e.demander.0).release t)) (demanders N x) i no_edge edge,
    )

-- each edge to the pair can be pegged
pub peggable : (N : Table) (table : List PlanRows) (x t : ℕ) (edges : List Edge) → Fits N table → IsPair N x → t < horizon N
    → slice_index (rows_at table x).gross t ≤ MOST
    → edges ≡ demanders N x → All (IsEdge N) edges → All (IsPeggable N table t) edges
peggable N table x t edges fits in_table within quantity are all i d h =
    let e = slice_index_or edges i d in
    let is_edge = all i d h in
    let in_demanders : i < length (demanders N x) = omega (arith, h, ap (λ (es : List Edge). length es) are) in
    let read : slice_index_or (demanders N x) i no_edge ≡ e = get_or_default (demanders N x) i no_edge d in_demanders
    ∙ ap (λ (es : List Edge). slice_index_or es i d) (sym are) in
    record {
      edge = is_edge;
      period = omega (arith, within, fitting_release N table e.demander.0 fits is_edge.demander);
      within = omega (
        arith,
        quantity,
        term_within N table x t i fits in_table within in_demanders,
        ap (λ (f : Edge). edge_need N f t (slice_index (rows_at table f.demander.0).release t)) read,
      );
    }

-- the terms name pairs of the table
pub peg_pairs : (N : Table) (table : List PlanRows) (x t : ℕ) (edges : List Edge) → IsPair N x → edges ≡ demanders N x → All (IsEdge N) edges
    → All (λ term. IsPair N term.pair.0) (peg_terms N table x t)
peg_pairs N table x t edges in_table are all =
    let P : List Edge → Type 0 = λ es. All (IsEdge N) es in
    let joins = subst P are all in
    All-filter is_asked (λ term. IsPair N term.pair.0) (demand_term N x t ∷ map (edge_term N table t) (demanders N x))
    (All-cons (λ term. IsPair N term.pair.0) (demand_term N x t) (map (edge_term N table t) (demanders N x)) in_table
    (All-map (λ (term : PegTerm). IsPair N term.pair.0) (edge_term N table t) (demanders N x) (λ i d h. (joins i d h).demander)))

-- what is kept of the demand rows and of the edges, one after the other
pub pegged : (N n : Table) (table : List PlanRows) (x t : ℕ) (edges : List Edge) (term : PegTerm) (none first all : List PegTerm) → n ≡ N
    → edges ≡ demanders n x → term ≡ demand_term n x t → none ≡ []
    → first ≡ none ++ filter is_asked (term ∷ []) → all ≡ first ++ filter is_asked (map (edge_term n table t) edges) → all ≡ peg_terms N table x t
pegged N n table x t edges term none first all same es is begun one rest =
    rw (rest, one, begun, is, es, same) (sym (filter-append is_asked (demand_term N x t ∷ []) (map (edge_term N table t) (demanders N x))))
