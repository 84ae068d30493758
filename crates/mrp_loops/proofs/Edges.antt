-- The loop check: the edges of a table, as the lists of a pair's demanders and suppliers have them.
use Rattle.std.proofs.Common.{◌≡◌, ℕ, ◌<◌, ◌==◌, List, ⊎_elim, length, map, refl, sym, subst, ◌∙◌, arith, count_by}
use Rattle.std.specs.List.{filter, flat_map, range_with_len}
use Rattle.std.proofs.lemmas.Bool.{eq-eqb, eqb-true}
use Rattle.mrp_master_data.specs.Table.{Table, IsTable, IsPair, IsBillRow, IsSourceRow, source_pair}
use Rattle.mrp_master_data.specs.declared.rows.SourceRow.{SourceRow}
use Rattle.mrp_net.specs.declared.edge.Edge.{Edge}
use Rattle.mrp_net.specs.Edges.{edges, demanders, bill_edge, source_edge}
use Rattle.mrp_net.specs.Suppliers.{suppliers}
use Rattle.mrp_loops.specs.Loop.{HasEdge}
use Rattle.mrp_net.proofs.Members.{In, In-from_contains, Contains-from_in, In-append_cases, In-filter, filter_only, In-flat_map, flat_map_only, In-range}
use Rattle.mrp_net.proofs.Members.{map_only, All-in}
use Rattle.mrp_loops.proofs.Counts.{count-sorted, count-filter_swap}

-- an edge joins pairs of the table
pub edge_pairs : (N : Table) → IsTable N → (e : Edge) → In (edges N) e → IsPair N e.demander.0 × IsPair N e.pair.0
edge_pairs N table e h = ⊎_elim
    (λ b.
    let c = map_only bill_edge N.bills e b in
    let row = All-in (IsBillRow N) N.bills c.0 table.read.bills c.1 in
    subst (λ (w : Edge). IsPair N w.demander.0 × IsPair N w.pair.0) c.2 (row.parent, row.component))
    (λ s.
    let c = map_only (source_edge N) N.sources e s in
    let row = All-in (IsSourceRow N) N.sources c.0 table.read.sources c.1 in
    let pair = All-in (λ (r : SourceRow). IsPair N (source_pair N r)) N.sources c.0 table.source_pairs c.1 in
    subst (λ (w : Edge). IsPair N w.demander.0 × IsPair N w.pair.0) c.2 (row.pair, pair))
    (In-append_cases (map bill_edge N.bills) (map (source_edge N) N.sources) e h)

pub HasEdge-from_in : (N : Table) (e : Edge) (y x : ℕ) → In (edges N) e → e.demander.0 ≡ y → e.pair.0 ≡ x → HasEdge N y x
HasEdge-from_in N e y x h d p = (e, Contains-from_in (edges N) e h, d, p)

pub HasEdge-pairs : (N : Table) → IsTable N → (y x : ℕ) → HasEdge N y x → IsPair N y × IsPair N x
HasEdge-pairs N table y x h =
    let c = edge_pairs N table h.0 (In-from_contains (edges N) h.0 h.1) in
    (subst (λ (w : ℕ). IsPair N w) h.2 c.0, subst (λ (w : ℕ). IsPair N w) h.3 c.1)

-- edges with one end at y, put in order of the other
put_in : (by at : Edge → ℕ) (n y : ℕ) (es : List Edge) (e : Edge) → In es e → at e ≡ y → by e < n
    → In (flat_map (λ x. filter (λ w. by w == x) (filter (λ w. at w == y) es)) (range_with_len 0 n)) e
put_in by at n y es e h p d =
    let to = In-filter (λ (w : Edge). at w == y) es e h (eq-eqb (at e) y p) in
    let group = In-filter (λ (w : Edge). by w == by e) (filter (λ (w : Edge). at w == y) es) e to (eq-eqb (by e) (by e) refl) in
    In-flat_map (λ x. filter (λ (w : Edge). by w == x) (filter (λ (w : Edge). at w == y) es)) (range_with_len 0 n) (by e) e
    (In-range 0 n (by e) (omega arith) (omega arith)) group

only_in : (by at : Edge → ℕ) (n y : ℕ) (es : List Edge) (e : Edge)
    → In (flat_map (λ x. filter (λ w. by w == x) (filter (λ w. at w == y) es)) (range_with_len 0 n)) e → In es e × (at e ≡ y)
only_in by at n y es e h =
    let c = flat_map_only (λ x. filter (λ (w : Edge). by w == x) (filter (λ (w : Edge). at w == y) es)) (range_with_len 0 n) e h in
    let f = filter_only (λ (w : Edge). by w == c.0) (filter (λ (w : Edge). at w == y) es) e c.2 in
    let g = filter_only (λ (w : Edge). at w == y) es e f.0 in
    (g.0, eqb-true (at e) y g.1)

pub demanders_have : (N : Table) (x : ℕ) (e : Edge) → In (edges N) e → e.pair.0 ≡ x → IsPair N e.demander.0 → In (demanders N x) e
demanders_have N x e h p d = put_in (λ w. w.demander.0) (λ w. w.pair.0) (length N.pairs) x (edges N) e h p d

pub demanders_only : (N : Table) (x : ℕ) (e : Edge) → In (demanders N x) e → In (edges N) e × (e.pair.0 ≡ x)
demanders_only N x e h = only_in (λ w. w.demander.0) (λ w. w.pair.0) (length N.pairs) x (edges N) e h

pub suppliers_have : (N : Table) (y : ℕ) (e : Edge) → In (edges N) e → e.demander.0 ≡ y → IsPair N e.pair.0 → In (suppliers N y) e
suppliers_have N y e h p d = put_in (λ w. w.pair.0) (λ w. w.demander.0) (length N.pairs) y (edges N) e h p d

pub suppliers_only : (N : Table) (y : ℕ) (e : Edge) → In (suppliers N y) e → In (edges N) e × (e.demander.0 ≡ y)
suppliers_only N y e h = only_in (λ w. w.pair.0) (λ w. w.demander.0) (length N.pairs) y (edges N) e h

-- the edges from y to x, counted at either end
pub count_between : (N : Table) (y x : ℕ) → IsPair N y → IsPair N x
    → count_by (λ e. e.demander.0 == y) (demanders N x) ≡ count_by (λ e. e.pair.0 == x) (suppliers N y)
count_between N y x from to =
    count-sorted (λ (e : Edge). e.demander.0) (length N.pairs) y (filter (λ (e : Edge). e.pair.0 == x) (edges N)) from
    ∙ (count-filter_swap (λ (e : Edge). e.demander.0 == y) (λ (e : Edge). e.pair.0 == x) (edges N)
    ∙ sym (count-sorted (λ (e : Edge). e.pair.0) (length N.pairs) x (filter (λ (e : Edge). e.demander.0 == y) (edges N)) to))

-- a demander by an edge, as the list of the demanders has it
pub demanders_edge : (N : Table) → IsTable N → (y x : ℕ) → HasEdge N y x → (e : Edge) × In (demanders N x) e × (e.demander.0 ≡ y)
demanders_edge N table y x h =
    let here = In-from_contains (edges N) h.0 h.1 in
    (h.0, demanders_have N x h.0 here h.3 (edge_pairs N table h.0 here).0, h.2)

pub suppliers_edge : (N : Table) → IsTable N → (y x : ℕ) → HasEdge N y x → (e : Edge) × In (suppliers N y) e × (e.pair.0 ≡ x)
suppliers_edge N table y x h =
    let here = In-from_contains (edges N) h.0 h.1 in
    (h.0, suppliers_have N y h.0 here h.2 (edge_pairs N table h.0 here).1, h.3)
