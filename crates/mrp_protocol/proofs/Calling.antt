-- The protocol: a schedule lane calls for the items of the pairs at its end, each joined to the supplier's pair.
use Rattle.std.proofs.Common.{◌≡◌, ℕ, ◌==◌, ◌&&◌, map, sym, ap, ◌∙◌, Contains}
use Rattle.std.proofs.lemmas.Bool.{and_from, eq-eqb}
use Rattle.mrp_master_data.specs.declared.numbers.ItemNo.{ItemNo}
use Rattle.mrp_master_data.specs.declared.numbers.PlantNo.{PlantNo}
use Rattle.mrp_master_data.specs.declared.rows.SourceRow.{SourceRow}
use Rattle.mrp_master_data.specs.Table.{Table, IsTable, IsPair, pair_no, source_pair}
use Rattle.mrp_net.specs.declared.lane.Lane.{Lane}
use Rattle.mrp_net.specs.declared.lane.LaneKind.{LaneKind}
use Rattle.mrp_net.specs.declared.lane.LaneKind.TheVariants.{Despatch, Schedule}
use Rattle.mrp_net.specs.Edges.{bill_edge, source_edge}
use Rattle.mrp_net.specs.Lanes.{lane_items, taken_over, item_of_source, pair_on, customer_of, supplier_of}
use Rattle.mrp_net.specs.LaneLaws.{HasSource}
use Rattle.mrp_net.specs.Sources.{source_on}
use Rattle.mrp_net.specs.Sums.{pair_at}
use Rattle.mrp_net.proofs.Behind.{items_have_sources}
use Rattle.mrp_net.proofs.Local.{source_pairs_are_there}
use Rattle.mrp_net.proofs.Members.{In, In-from_contains, Contains-from_in, In-filter, In-map, In-append_right, All-in}
use Rattle.mrp_net.proofs.Sharing.{pairs_are_found}
use Rattle.mrp_loops.specs.Loop.{HasEdge}
use Rattle.mrp_loops.proofs.Edges.{HasEdge-from_in}

pub supplier_by_kind : (lane : Lane) → lane.kind ≡ Schedule → supplier_of lane ≡ lane.receiver.0
supplier_by_kind lane e = ap (λ (k : LaneKind). elim k as (λ _. ℕ) [ Despatch ↦ lane.sender.0 | Schedule ↦ lane.receiver.0 ]) e

-- the pair behind a source
pub pair_behind : (N : Table) → IsTable N → (s : SourceRow) → In N.sources s
    → IsPair N (source_pair N s) × ((pair_at N (source_pair N s)).plant ≡ s.plant) × ((pair_at N (source_pair N s)).item ≡ item_of_source N s)
pair_behind N table s there =
    All-in (λ (r : SourceRow). IsPair N (source_pair N r) × ((pair_at N (source_pair N r)).plant ≡ r.plant)
    × ((pair_at N (source_pair N r)).item ≡ item_of_source N r)) N.sources s
    (source_pairs_are_there N table) there

-- the source of an item of a lane is one of its route, and of the item
pub source_over : (N : Table) (lane : Lane) (item : ItemNo) → HasSource N lane item
    → Contains (taken_over N (customer_of lane) (supplier_of lane)) (source_on N lane item)
source_over N lane item has =
    let s : SourceRow = source_on N lane item in
    let test = λ (r : SourceRow). ((pair_at N r.pair.0).plant.0 == customer_of lane) && (r.plant.0 == supplier_of lane) in
    let there = ap (λ (z : ℕ). (pair_at N z).plant.0) has.taker ∙ has.customer.at_plant in
    let passes = and_from ((pair_at N s.pair.0).plant.0 == customer_of lane) (s.plant.0 == supplier_of lane) (eq-eqb _ _ there) (eq-eqb _ _ has.plant) in
    Contains-from_in (taken_over N (customer_of lane) (supplier_of lane)) s (In-filter test N.sources s (In-from_contains N.sources s has.source) passes)

pub source_item : (N : Table) (lane : Lane) (item : ItemNo) → HasSource N lane item → item_of_source N (source_on N lane item) ≡ item
source_item N lane item has = ap (λ (z : ℕ). (pair_at N z).item) has.taker ∙ has.customer.of_item

-- the source of a schedule lane's item takes from the pair at the other end
pub called_pair : (N : Table) → IsTable N → (lane : Lane) (x : ℕ) → IsPair N x → lane.kind ≡ Schedule → lane.receiver.0 ≡ (pair_at N x).plant.0
    → Contains (lane_items N lane) (pair_at N x).item
    → source_pair N (source_on N lane (pair_at N x).item) ≡ x
called_pair N table lane x pair kind here there =
    let item : ItemNo = (pair_at N x).item in
    let s : SourceRow = source_on N lane item in
    let has = items_have_sources N table lane item there in
    let behind = pair_behind N table s (In-from_contains N.sources s has.source) in
    let y : ℕ = source_pair N s in
    let plant : (pair_at N y).plant.0 ≡ (pair_at N x).plant.0 =
    ap (λ (p : PlantNo). p.0) behind.1 ∙ has.plant ∙ supplier_by_kind lane kind ∙ here in
    let its_item : (pair_at N y).item.0 ≡ item.0 =
    ap (λ (i : ItemNo). i.0) (behind.2 ∙ source_item N lane item has) in
    sym (pairs_are_found N table y behind.0) ∙ ap (λ (p : ℕ). pair_no N p (pair_at N y).item.0) plant
    ∙ ap (λ (i : ℕ). pair_no N (pair_at N x).plant.0 i) its_item ∙ pairs_are_found N table x pair

pub calls_pair : (N : Table) → IsTable N → (lane : Lane) (x : ℕ) → IsPair N x → lane.kind ≡ Schedule → lane.receiver.0 ≡ (pair_at N x).plant.0
    → Contains (lane_items N lane) (pair_at N x).item
    → HasEdge N (pair_on N lane (pair_at N x).item) x
calls_pair N table lane x pair kind here there =
    let item : ItemNo = (pair_at N x).item in
    let s : SourceRow = source_on N lane item in
    let has = items_have_sources N table lane item there in
    HasEdge-from_in N (source_edge N s) (pair_on N lane item) x
    (In-append_right (map bill_edge N.bills) (map (source_edge N) N.sources) (source_edge N s)
    (In-map (source_edge N) N.sources s (In-from_contains N.sources s has.source)))
    has.taker (called_pair N table lane x pair kind here there)
