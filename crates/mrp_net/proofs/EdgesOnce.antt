-- The network: at most one of its edges joins two given pairs.
use Rattle.std.proofs.Common.{◌≡◌, ◌≢◌, ℕ, ◌==◌, true, false, length, get_or, map, sym, ap, ◌∙◌, arith}
use Rattle.std.specs.List.{All, AllPairs, filter}
use Rattle.std.proofs.lemmas.Bool.{eqb-true, eq-eqb, and_from, true≢false}
use Rattle.std.proofs.lemmas.List.Elements.{filter_passes}
use Rattle.std.proofs.lemmas.List.Kept.{AllPairs-filter}
use Rattle.std.proofs.lemmas.Map.Keys.{apart_from_distinct}
use Rattle.mrp_master_data.specs.declared.numbers.PlantNo.{PlantNo}
use Rattle.mrp_master_data.specs.declared.rows.BillRow.{BillRow}
use Rattle.mrp_master_data.specs.declared.rows.SourceRow.{SourceRow}
use Rattle.mrp_master_data.specs.Table.{Table, IsTable, is_same_bill, is_same_source}
use Rattle.mrp_net.specs.declared.edge.Edge.{Edge}
use Rattle.mrp_net.specs.Edges.{bill_edge, source_edge, edges}
use Rattle.mrp_net.specs.EdgeLaws.{is_local, OneEdgeJoinsTwoPairs, DemandersStandOnce}
use Rattle.mrp_net.specs.Sums.{pair_at}
use Rattle.mrp_net.proofs.Local.{bill_edges_are_local, source_edges_cross, source_pairs_are_there}
use Rattle.mrp_net.proofs.Pieces.{AllPairs-append, AllPairs-map, AllPairs-pieces}

abbrev JoinOthers : Edge → Edge → Type 0
JoinOthers e f = ¬ ((e.demander.0 ≡ f.demander.0) × (e.pair.0 ≡ f.pair.0))

bills_once : (N : Table) → IsTable N → AllPairs (λ b c. JoinOthers (bill_edge b) (bill_edge c)) N.bills
bills_once N is = λ i j d low lt same.
    let b : BillRow = get_or N.bills i d in
    let c : BillRow = get_or N.bills j d in
    let passes = and_from (b.parent.0 == c.parent.0) (b.component.0 == c.component.0) (eq-eqb b.parent.0 c.parent.0 same.0)
    (eq-eqb b.component.0 c.component.0 same.1) in
    absurd (true≢false (sym passes ∙ apart_from_distinct is_same_bill N.bills i j d is.once.bills low lt))

sources_once : (N : Table) → IsTable N → AllPairs (λ s r. JoinOthers (source_edge N s) (source_edge N r)) N.sources
sources_once N is = λ i j d low lt same.
    let s : SourceRow = get_or N.sources i d in
    let r : SourceRow = get_or N.sources j d in
    let there_s = source_pairs_are_there N is i d (omega arith) in
    let there_r = source_pairs_are_there N is j d lt in
    let plants : s.plant ≡ r.plant = sym there_s.1 ∙ ap (λ (x : ℕ). (pair_at N x).plant) same.1 ∙ there_r.1 in
    let passes = and_from (s.plant.0 == r.plant.0) (s.pair.0 == r.pair.0) (eq-eqb s.plant.0 r.plant.0 (ap (λ (p : PlantNo). p.0) plants))
    (eq-eqb s.pair.0 r.pair.0 same.0) in
    absurd (true≢false (sym passes ∙ apart_from_distinct is_same_source N.sources i j d is.once.sources low lt))

-- an edge within a plant and one that crosses join others
crossing : (N : Table) (e f : Edge) → is_local N e ≡ true → is_local N f ≡ false → JoinOthers e f
crossing N e f within crosses same =
    true≢false (sym within
    ∙ ap (λ (y : ℕ). (pair_at N y).plant.0 == (pair_at N e.pair.0).plant.0) same.0
    ∙ ap (λ (x : ℕ). (pair_at N f.demander.0).plant.0 == (pair_at N x).plant.0) same.1
    ∙ crosses)

pub one_edge_joins_two_pairs : OneEdgeJoinsTwoPairs
one_edge_joins_two_pairs N is =
    let bills = map bill_edge N.bills in
    let sources = map (source_edge N) N.sources in
    AllPairs-append JoinOthers bills sources
    (AllPairs-map JoinOthers bill_edge N.bills (bills_once N is))
    (AllPairs-map JoinOthers (source_edge N) N.sources (sources_once N is))
    (λ i d h j e l. crossing N (get_or bills i d) (get_or sources j e) (bill_edges_are_local N is i d h) (source_edges_cross N is j e l))

pub demanders_stand_once : DemandersStandOnce
demanders_stand_once N is x =
    let to = filter (λ (e : Edge). e.pair.0 == x) (edges N) in
    let from = λ (y : ℕ). filter (λ (e : Edge). e.demander.0 == y) to in
    let once : AllPairs JoinOthers to = AllPairs-filter JoinOthers (λ (e : Edge). e.pair.0 == x) (edges N) (one_edge_joins_two_pairs N is) in
    let pairs : All (λ e. (e.pair.0 == x) ≡ true) to = filter_passes (λ (e : Edge). e.pair.0 == x) (edges N) in
    AllPairs-pieces (λ e f. e.demander.0 ≢ f.demander.0) (λ (e : Edge). e.demander.0) from 0 (length N.pairs)
    (λ e f low same. omega arith)
    (λ y. AllPairs-filter (λ e f. e.demander.0 ≢ f.demander.0) (λ (e : Edge). e.demander.0 == y) to
    (λ i j d low lt same. once i j d low lt (
      same,
      eqb-true (get_or to i d).pair.0 x (pairs i d (omega arith))
          ∙ sym (eqb-true (get_or to j d).pair.0 x (pairs j d lt)),
    )))
    (λ y i d lt. eqb-true (get_or (from y) i d).demander.0 y (filter_passes (λ (e : Edge). e.demander.0 == y) to i d lt))
