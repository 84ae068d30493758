-- The network: what stands behind an item of one of its lanes, which is a source, and a pair at either end.
use Rattle.std.proofs.Common.{◌≡◌, ℕ, ◌<◌, length, refl, ap, ◌∙◌, subst}
use Rattle.std.specs.List.{Contains}
use Rattle.std.proofs.lemmas.List.Elements.{Contains-get_or}
use Rattle.mrp_master_data.specs.declared.numbers.ItemNo.{ItemNo}
use Rattle.mrp_master_data.specs.declared.rows.SourceRow.{SourceRow}
use Rattle.mrp_master_data.specs.Table.{Table, IsTable, IsPair, pair_no, item_at, source_pair}
use Rattle.mrp_net.specs.declared.lane.Lane.{Lane}
use Rattle.mrp_net.specs.declared.lane.LaneKind.{LaneKind}
use Rattle.mrp_net.specs.declared.lane.LaneKind.TheVariants.{Despatch, Schedule}
use Rattle.mrp_net.specs.Lanes.{lane_items, pair_on, customer_of, supplier_of}
use Rattle.mrp_net.specs.LaneLaws.{IsPairOf, HasSource, ItemsHaveSources}
use Rattle.mrp_net.specs.Sources.{source_no, source_on, no_source}
use Rattle.mrp_net.specs.SourceRows.{supplied_on}
use Rattle.mrp_net.proofs.Local.{pair_of, item_is}
use Rattle.mrp_net.proofs.Sourcing.{item_is_taken, source_within, source_is, taker_within}

is_pair_of : (N : Table) (x plant : ℕ) (item : ItemNo) → x ≡ pair_no N plant item.0 → IsPair N x → IsPairOf N x plant item
is_pair_of N x plant item is pair =
    let both = pair_of N x plant item.0 is pair in
    record { pair = pair; at_plant = both.0; of_item = ap (λ (z : ℕ). let i : ItemNo = record { 0 = z } in i) both.1 }

pub items_have_sources : ItemsHaveSources
items_have_sources N is lane item contains =
    let x : ℕ = pair_on N lane item in
    let p : ℕ = supplier_of lane in
    let taken = item_is_taken N lane item is contains in
    let within : source_no N x p < length N.sources = source_within N x p taken in
    let s : SourceRow = source_on N lane item in
    let both = source_is N x p within in
    let own : IsPair N x = taker_within N x p is taken in
    let item_same : item_at N s.pair.0 ≡ item.0 = ap (item_at N) both.0 ∙ item_is N x own ∙ (pair_of N x (customer_of lane) item.0 refl own).1 in
    let there : source_pair N s ≡ supplied_on N lane item = ap (λ (z : ℕ). pair_no N z (item_at N s.pair.0)) both.1 ∙ ap (pair_no N p) item_same in
    let other : IsPair N (supplied_on N lane item) = subst (IsPair N) there (is.source_pairs (source_no N x p) no_source within) in
    record {
      source = Contains-get_or N.sources (source_no N x p) no_source within;
      taker = both.0;
      plant = both.1;
      customer = is_pair_of N x (customer_of lane) item refl own;
      supplier = is_pair_of N (supplied_on N lane item) p item refl other;
    }

-- the pair at the receiving end
receiver_by_kind : (N : Table) (lane : Lane) (item : ItemNo) (kind : LaneKind) → lane.kind ≡ kind → HasSource N lane item
    → IsPairOf N (pair_no N lane.receiver.0 item.0) lane.receiver.0 item
receiver_by_kind N lane item Despatch e has =
    subst (λ (z : ℕ). IsPairOf N (pair_no N z item.0) z item) (ap
    (λ (k : LaneKind). elim k as (λ _. ℕ) [ Despatch ↦ lane.receiver.0 | Schedule ↦ lane.sender.0 ]) e) has.customer
receiver_by_kind N lane item Schedule e has =
    subst (λ (z : ℕ). IsPairOf N (pair_no N z item.0) z item) (ap
    (λ (k : LaneKind). elim k as (λ _. ℕ) [ Despatch ↦ lane.sender.0 | Schedule ↦ lane.receiver.0 ]) e) has.supplier

pub receiver_is : (N : Table) (lane : Lane) (item : ItemNo) → HasSource N lane item → IsPairOf N (pair_no N lane.receiver.0 item.0) lane.receiver.0 item
receiver_is N lane item has = receiver_by_kind N lane item lane.kind refl has

pub receiver_within : (N : Table) (lane : Lane) (item : ItemNo) → IsTable N → Contains (lane_items N lane) item → IsPair N (pair_no N lane.receiver.0 item.0)
receiver_within N lane item is contains = (receiver_is N lane item (items_have_sources N is lane item contains)).pair
