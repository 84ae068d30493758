-- The network: gross requirements by who asks, which is rows of the plant, and sources over its routes.
use Rattle.std.proofs.Common.{◌≡◌, ℕ, ◌<◌, Bool, true, false, cond, eqb, List, inl, inr, length, get_or, map, refl, sym, ap, ◌∙◌, arith}
use Rattle.std.specs.List.{All, filter, sum_by}
use Rattle.std.proofs.lemmas.Bool.{cases_Bool, eqb-true, eq-eqb}
use Rattle.std.proofs.lemmas.List.Elements.{All-filter}
use Rattle.std.proofs.lemmas.List.Sums.{sum_by-append}
use Rattle.mrp_netting.specs.PlanRows.{PlanRows}
use Rattle.mrp_master_data.specs.declared.rows.BillRow.{BillRow}
use Rattle.mrp_master_data.specs.declared.rows.SourceRow.{SourceRow}
use Rattle.mrp_master_data.specs.Table.{Table, IsTable, IsPair, source_pair, item_at}
use Rattle.mrp_net.specs.declared.edge.Edge.{Edge}
use Rattle.mrp_net.specs.Edges.{part, edge_need, edge_usage, bill_edge, source_edge, edges, demanders}
use Rattle.mrp_net.specs.PlanLaws.{asked_by_bill, asked_by_source, GrossIsLocalAndCalled}
use Rattle.mrp_net.specs.Plan.{release_at}
use Rattle.mrp_net.specs.RouteLaws.{over_route, over_plants}
use Rattle.mrp_net.specs.Sums.{pair_at}
use Rattle.mrp_net.specs.Usages.{pieces_for, usage_in, usages_to}
use Rattle.mrp_net.proofs.Covering.{sum_by-same, routes_cover_suppliers}
use Rattle.mrp_net.proofs.Joining.{edges_join}
use Rattle.mrp_net.proofs.Local.{pair_of, whole_part}
use Rattle.mrp_net.proofs.Needs.{sources_ask_their_shares}
use Rattle.mrp_grouping.proofs.Kept.{sum-sorted_by, sum_filter}
use Rattle.mrp_net.proofs.Sharing.{sum_map}

-- what an edge asks of its pair
abbrev asked_by : Table → List PlanRows → ℕ → Edge → ℕ
asked_by N table t e = edge_need N e t (release_at table e.demander.0 t)

abbrev asked_of : Table → List PlanRows → ℕ → ℕ → Edge → ℕ
asked_of N table x t e = cond (eqb e.pair.0 x) (asked_by N table t e) 0

-- the sum over the demanders is one over all edges
all_edges : (N : Table) (table : List PlanRows) (x t : ℕ) → IsTable N → sum_by (asked_by N table t) (demanders N x) ≡ sum_by (asked_of N table x t) (edges N)
all_edges N table x t is =
    sum-sorted_by (asked_by N table t) (λ e. e.demander.0) (length N.pairs) (filter (λ e. eqb e.pair.0 x) (edges N))
    (All-filter (λ e. eqb e.pair.0 x) (λ e. e.demander.0 < length N.pairs) (edges N) (λ k d h. (edges_join N is k d h).demander))
    ∙ sum_filter (asked_by N table t) (λ e. eqb e.pair.0 x) (edges N)

-- of a component row and of a source
bill_asks : (N : Table) (table : List PlanRows) (x t : ℕ) (b : BillRow) → asked_of N table x t (bill_edge b) ≡ asked_by_bill N table x t b
bill_asks N table x t b =
    let release : ℕ = release_at table b.parent.0 t in
    let asks : ℕ = asked_by N table t (bill_edge b) in
    elim (cases_Bool (eqb b.component.0 x)) as (λ _. asked_of N table x t (bill_edge b) ≡ asked_by_bill N table x t b) [
      | inl own ↦
          ap (λ (z : ℕ). cond (eqb b.component.0 x) z 0)
          (ap (λ (z : ℕ). pieces_for (edge_usage N (bill_edge b) t) z) (whole_part b release)
          ∙ ap (λ (y : ℕ). pieces_for (usage_in (usages_to N y) b.parent.0 b.per t) release) (eqb-true b.component.0 x own))
      | inr other ↦
          ap (λ (c : Bool). cond c asks 0) other
          ∙ sym (ap (λ (c : Bool). cond c (pieces_for (usage_in (usages_to N x) b.parent.0 b.per t) release) 0) other)
    ]

source_asks : (N : Table) (table : List PlanRows) (x t : ℕ) → IsTable N
    → All (λ s. asked_of N table x t (source_edge N s) ≡ asked_by_source N table x t s) N.sources
source_asks N table x t is = λ k d h. let s : SourceRow = get_or N.sources k d in
    ap (λ (z : ℕ). cond (eqb (source_pair N s) x) z 0) (sources_ask_their_shares N is k d h t (release_at table s.pair.0 t))

-- a source of another plant asks nothing of the pair
cond_same : (n : ℕ) (b : Bool) → cond b n n ≡ n
cond_same n true = refl
cond_same n false = refl

from_there : (N : Table) (table : List PlanRows) (x t : ℕ) (s : SourceRow) → IsPair N x
    → asked_by_source N table x t s ≡ cond (eqb s.plant.0 (pair_at N x).plant.0) (asked_by_source N table x t s) 0
from_there N table x t s pair =
    let amount : ℕ = part (source_edge N s) (release_at table s.pair.0 t) in
    let here : Bool = eqb s.plant.0 (pair_at N x).plant.0 in
    elim (cases_Bool (eqb (source_pair N s) x)) as (λ _. asked_by_source N table x t s ≡ cond here (asked_by_source N table x t s) 0) [
      | inl same ↦
          let plant = (pair_of N x s.plant.0 (item_at N s.pair.0) (sym (eqb-true (source_pair N s) x same)) pair).0 in
          sym (ap (λ (b : Bool). cond b (asked_by_source N table x t s) 0) (eq-eqb s.plant.0 (pair_at N x).plant.0 (sym plant)))
      | inr other ↦
          let none : asked_by_source N table x t s ≡ 0 = ap (λ (b : Bool). cond b amount 0) other in
          none ∙ sym (ap (λ (z : ℕ). cond here z 0) none ∙ cond_same 0 here)
    ]

called : (N : Table) (table : List PlanRows) (x t : ℕ) → IsTable N → IsPair N x
    → sum_by (asked_by_source N table x t) N.sources ≡ over_plants N (λ customer. over_route N (asked_by_source N table x t) customer (pair_at N x).plant.0)
called N table x t is pair =
    let asks = asked_by_source N table x t in
    let here = λ (s : SourceRow). eqb s.plant.0 (pair_at N x).plant.0 in
    sum_by-same asks (λ s. cond (here s) (asks s) 0) N.sources (λ k d h. from_there N table x t (get_or N.sources k d) pair)
    ∙ sym (sum_filter asks here N.sources)
    ∙ sym (routes_cover_suppliers N is asks (pair_at N x).plant.0)

pub gross_is_local_and_called : GrossIsLocalAndCalled
gross_is_local_and_called N is table x t pair =
    let bills : sum_by (asked_of N table x t) (map bill_edge N.bills) ≡ sum_by (asked_by_bill N table x t) N.bills =
    sum_map (asked_of N table x t) bill_edge N.bills
    ∙ sum_by-same (λ b. asked_of N table x t (bill_edge b)) (asked_by_bill N table x t) N.bills (λ k d h. bill_asks N table x t (get_or N.bills k d)) in
    let sources : sum_by (asked_of N table x t) (map (source_edge N) N.sources) ≡ sum_by (asked_by_source N table x t) N.sources =
    sum_map (asked_of N table x t) (source_edge N) N.sources
    ∙ sum_by-same (λ s. asked_of N table x t (source_edge N s)) (asked_by_source N table x t) N.sources (source_asks N table x t is)
    in
    omega (
      arith,
      all_edges N table x t is,
      sum_by-append (asked_of N table x t) (map bill_edge N.bills)
          (map (source_edge N) N.sources),
      bills,
      sources,
      called N table x t is pair,
    )
