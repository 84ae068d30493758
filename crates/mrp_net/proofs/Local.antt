-- The network: its edges within a plant are those of components.
use Rattle.std.proofs.Common.{◌≡◌, ℕ, ◌&&◌, true, false, not, eqb, List, ◌++◌, length, get_or, map, refl, sym, ap, ◌∙◌, arith}
use Rattle.std.specs.List.{All, filter, position_or_len}
use Rattle.std.specs.Option.{unwrap_or, option_map}
use Rattle.std.proofs.lemmas.Bool.{eqb-true, eq-eqb, and_parts, true≢false, false_from_ne_true}
use Rattle.std.proofs.lemmas.List.{append-nil}
use Rattle.std.proofs.lemmas.List.Elements.{All-append, All-map, All-filter, filter-append}
use Rattle.std.proofs.lemmas.List.Sums.{passes_at_first}
use Rattle.std.proofs.lemmas.Option.{slice_get-get_or}
use Rattle.mrp_master_data.specs.declared.numbers.ItemNo.{ItemNo}
use Rattle.mrp_master_data.specs.declared.numbers.PlantNo.{PlantNo}
use Rattle.mrp_master_data.specs.declared.rows.BillRow.{BillRow}
use Rattle.mrp_master_data.specs.declared.rows.PairRow.{PairRow}
use Rattle.mrp_master_data.specs.declared.rows.SourceRow.{SourceRow}
use Rattle.mrp_master_data.specs.Table.{Table, IsTable, IsPair, pair_no, plant_at, item_at, source_pair}
use Rattle.mrp_net.specs.declared.edge.Edge.{Edge}
use Rattle.mrp_net.specs.Edges.{bill_edge, edge_usage, edges, part, source_edge}
use Rattle.mrp_net.specs.Lanes.{item_of_source}
use Rattle.mrp_net.specs.EdgeLaws.{SourcePairsAreThere, is_local, IsLocalEdge, LocalEdgesAreBills, LocalEdgesAreWhole, LocalDemandersAreWhole}
use Rattle.mrp_net.specs.EdgeLaws.{CrossingEdgesAreSources}
use Rattle.mrp_net.specs.Sums.{pair_at, no_pair}
use Rattle.mrp_net.specs.Usages.{pieces_for}
use Rattle.mrp_net.proofs.Naming.{unwrap_or-position}
use Rattle.mrp_net.proofs.Sharing.{share-whole, zero_share}
use Rattle.mrp_grouping.proofs.Sorting.{filter_none, filter_whole, All-sorted_by}

pub plant_is : (N : Table) (x : ℕ) → IsPair N x → plant_at N x ≡ (pair_at N x).plant.0
plant_is N x h = ap (λ o. unwrap_or (option_map (λ (p : PairRow). p.plant.0) o) 0) (slice_get-get_or N.pairs x no_pair h)

pub item_is : (N : Table) (x : ℕ) → IsPair N x → item_at N x ≡ (pair_at N x).item.0
item_is N x h = ap (λ o. unwrap_or (option_map (λ (p : PairRow). p.item.0) o) 0) (slice_get-get_or N.pairs x no_pair h)

-- the pair of a plant and an item has them
pub pair_of : (N : Table) (x plant item : ℕ) → x ≡ pair_no N plant item → IsPair N x → ((pair_at N x).plant.0 ≡ plant) × ((pair_at N x).item.0 ≡ item)
pair_of N x plant item is pair =
    let test = λ (row : PairRow). eqb row.plant.0 plant && eqb row.item.0 item in
    let n : ℕ = position_or_len test N.pairs in
    let place : x ≡ n = is ∙ unwrap_or-position test N.pairs in
    let here = passes_at_first test N.pairs no_pair (omega arith) in
    let parts = and_parts (eqb (pair_at N n).plant.0 plant) (eqb (pair_at N n).item.0 item) here in (
      ap (λ (z : ℕ). (pair_at N z).plant.0) place ∙ eqb-true (pair_at N n).plant.0 plant parts.0,
      ap (λ (z : ℕ). (pair_at N z).item.0) place ∙ eqb-true (pair_at N n).item.0 item parts.1,
    )

source_pair_is : (N : Table) (s : SourceRow) → IsPair N s.pair.0 → IsPair N (source_pair N s)
    → IsPair N (source_pair N s) × ((pair_at N (source_pair N s)).plant ≡ s.plant) × ((pair_at N (source_pair N s)).item ≡ item_of_source N s)
source_pair_is N s takes pair =
    let both = pair_of N (source_pair N s) s.plant.0 (item_at N s.pair.0) refl pair in (
      pair,
      ap (λ (z : ℕ). let p : PlantNo = record { 0 = z } in p) both.0,
      ap (λ (z : ℕ). let i : ItemNo = record { 0 = z } in i) (both.1 ∙ item_is N s.pair.0 takes),
    )

pub source_pairs_are_there : SourcePairsAreThere
source_pairs_are_there N is = λ k d h. source_pair_is N (get_or N.sources k d) (is.read.sources k d h).pair (is.source_pairs k d h)

-- bill edges stay within a plant, and source edges don't
pub bill_edge_is_local : (N : Table) (b : BillRow) → IsPair N b.parent.0 → IsPair N b.component.0 → plant_at N b.parent.0 ≡ plant_at N b.component.0
    → is_local N (bill_edge b) ≡ true
bill_edge_is_local N b parent component same =
    eq-eqb (pair_at N b.parent.0).plant.0 (pair_at N b.component.0).plant.0 (sym (plant_is N b.parent.0 parent) ∙ same ∙ plant_is N b.component.0 component)

pub source_edge_crosses : (N : Table) (s : SourceRow) → IsPair N s.pair.0 → IsPair N (source_pair N s) → eqb s.plant.0 (plant_at N s.pair.0) ≡ false
    → is_local N (source_edge N s) ≡ false
source_edge_crosses N s takes pair other =
    false_from_ne_true (is_local N (source_edge N s))
    (λ same. true≢false (sym (eq-eqb s.plant.0 (plant_at N s.pair.0)
    (sym (pair_of N (source_pair N s) s.plant.0 (item_at N s.pair.0) refl pair).0
    ∙ sym (eqb-true (pair_at N s.pair.0).plant.0 (pair_at N (source_pair N s)).plant.0 same)
    ∙ sym (plant_is N s.pair.0 takes))) ∙ other))

pub bill_edges_are_local : (N : Table) → IsTable N → All (λ e. is_local N e ≡ true) (map bill_edge N.bills)
bill_edges_are_local N is =
    All-map (λ e. is_local N e ≡ true) bill_edge N.bills
    (λ k d h. let row = is.read.bills k d h in bill_edge_is_local N (get_or N.bills k d) row.parent row.component (is.sourced.plants k d h))

pub source_edges_cross : (N : Table) → IsTable N → All (λ e. is_local N e ≡ false) (map (source_edge N) N.sources)
source_edges_cross N is =
    All-map (λ e. is_local N e ≡ false) (source_edge N) N.sources
    (λ k d h. source_edge_crosses N (get_or N.sources k d) (is.read.sources k d h).pair (is.source_pairs k d h) (is.sourced.others k d h))

pub local_edges_are_bills : LocalEdgesAreBills
local_edges_are_bills N is =
    filter-append (is_local N) (map bill_edge N.bills) (map (source_edge N) N.sources)
    ∙ ap (λ (z : List Edge). z ++ filter (is_local N) (map (source_edge N) N.sources))
    (filter_whole (is_local N) (map bill_edge N.bills) (bill_edges_are_local N is))
    ∙ ap (λ (z : List Edge). map bill_edge N.bills ++ z) (filter_none (is_local N) (map (source_edge N) N.sources) (source_edges_cross N is))
    ∙ append-nil (map bill_edge N.bills)

pub crossing_edges_are_sources : CrossingEdgesAreSources
crossing_edges_are_sources N is =
    let crosses = λ (e : Edge). not (is_local N e) in
    filter-append crosses (map bill_edge N.bills) (map (source_edge N) N.sources)
    ∙ ap (λ (z : List Edge). z ++ filter crosses (map (source_edge N) N.sources))
    (filter_none crosses (map bill_edge N.bills) (λ k d h. ap not (bill_edges_are_local N is k d h)))
    ∙ filter_whole crosses (map (source_edge N) N.sources) (λ k d h. ap not (source_edges_cross N is k d h))

-- a bill edge is whole
pub whole_part : (b : BillRow) (release : ℕ) → part (bill_edge b) release ≡ release
whole_part b release = omega (arith, share-whole release, zero_share release)

bill_edge_is_whole : (N : Table) (b : BillRow) → IsPair N b.parent.0 → is_local N (bill_edge b) ≡ true → IsLocalEdge N (bill_edge b)
bill_edge_is_whole N b parent here = record {
  low = refl;
  high = refl;
  demander = parent;
  plant = ap (λ (z : ℕ). let p : PlantNo = record { 0 = z } in p) (eqb-true (pair_at N b.parent.0).plant.0 (pair_at N b.component.0).plant.0 here);
  need = λ t release. ap (λ (z : ℕ). pieces_for (edge_usage N (bill_edge b) t) z) (whole_part b release);
}

pub local_edges_are_whole : LocalEdgesAreWhole
local_edges_are_whole N is =
    let P = λ (e : Edge). is_local N e ≡ true → IsLocalEdge N e in
    All-append P (map bill_edge N.bills) (map (source_edge N) N.sources)
    (All-map P bill_edge N.bills (λ k d h. bill_edge_is_whole N (get_or N.bills k d) (is.read.bills k d h).parent))
    (λ k d h same. absurd (true≢false (sym same ∙ source_edges_cross N is k d h)))

pub local_demanders_are_whole : LocalDemandersAreWhole
local_demanders_are_whole N is x =
    let P = λ (e : Edge). is_local N e ≡ true → IsLocalEdge N e in
    All-sorted_by P (λ e. e.demander.0) (length N.pairs) (filter (λ e. eqb e.pair.0 x) (edges N))
    (All-filter (λ e. eqb e.pair.0 x) P (edges N) (local_edges_are_whole N is))
