-- The agent: it counts a pair as planned, and what it keeps true by that.
use Rattle.std.proofs.Common.{◌≡◌, ℕ, ◌+◌, ◌<◌, ◌≤◌, ◌==◌, ◌&&◌, nat_lt, if◌then◌else◌, Bool, true, false, [], ◌∷◌, ◌++◌, Option, Some, None, List, length}
use Rattle.std.proofs.Common.{get_or, map, slice_index, slice_range, slice_get, refl, sym, ap, ◌∙◌, subst, arith}
use Rattle.std.specs.List.{All, filter, fold}
use Rattle.std.proofs.lemmas.List.{length-set}
use Rattle.std.proofs.lemmas.List.Elements.{All-filter, All-map}
use Rattle.std.proofs.lemmas.List.FromFn.{get_or-map-range_with_len, length-map-range_with_len}
use Rattle.std.proofs.lemmas.Option.{get_or_from_slice_get}
use Rattle.mrp_master_data.specs.declared.numbers.ItemNo.{ItemNo}
use Rattle.mrp_net.specs.declared.lane.LaneKind.{LaneKind}
use Rattle.mrp_net.specs.declared.lane.LaneKind.TheVariants.{Despatch, Schedule}
use Rattle.mrp_plant_view.specs.declared.view.OutgoingLane.{OutgoingLane}
use Rattle.mrp_plant_view.specs.declared.view.PlantEdge.{PlantEdge}
use Rattle.mrp_plant_view.specs.Seen.{IsPlantEdge}
use Rattle.mrp_record.specs.Cursor.{OutFigures}
use Rattle.mrp_grouping.proofs.Sorting.{IsGrouped-within}
use Rattle.mrp_readiness.specs.declared.join.Join.{Join}
use Rattle.mrp_readiness.specs.Counts.{components_of, open_blocks}
use Rattle.mrp_readiness.specs.Progress.{IsFree, Progress, times}
use Rattle.mrp_readiness.proofs.Counting.{components_wait}
use Rattle.mrp_agent.specs.declared.queues.QueuePlace.{QueuePlace}
use Rattle.mrp_agent.specs.After.{AreOutsSettled, PairSettled, items_of, place_among, queued_at, queued_by}
use Rattle.mrp_agent.specs.Kept.{Indexes, IsKept}
use Rattle.mrp_agent.specs.Shows.{awaited, join_of, joins_of}
use Rattle.mrp_agent.specs.Queues.{queue_places, with_queued}
use Rattle.mrp_agent.specs.State.{AgentState, out_at, outgoing_at, plant_pair_at}
use Rattle.mrp_agent.proofs.Owning.{own_within}
use Rattle.mrp_agent.proofs.Queueing.{all_queued, queues_at, queues_known}

-- a pair that waits for nothing in the same state
pub free_before : {A S : AgentState} {place : ℕ} → A ≡ S → IsFree S.progress.waits S.progress.planned place → IsFree A.progress.waits A.progress.planned place
free_before {A} {S} {place} same free = subst (λ (a : AgentState). IsFree a.progress.waits a.progress.planned place) (sym same) free

-- ---- the components of a pair

module _ (A : AgentState) (I : Indexes) (kept : IsKept A I) (place : ℕ) (free : IsFree A.progress.waits A.progress.planned place) where
  within : place < length A.view.pairs
  within = omega (arith, free.known, kept.rooms.progress.waits)

  components_length : length I.components ≡ length A.view.pairs
  components_length = ap length kept.indexes.components ∙ length-map-range_with_len (components_of (joins_of A.view)) 0 (length A.view.pairs)

  pub components_known : place < length I.components
  components_known = omega (arith, within, components_length)

  pub components_are : (components : List ℕ) → slice_get I.components place ≡ Some components → components ≡ components_of (joins_of A.view) place
  components_are components found =
      let f : ℕ → List ℕ = components_of (joins_of A.view) in
      let there : get_or I.components place components ≡ f place =
      ap (λ (z : List (List ℕ)). get_or z place components) kept.indexes.components
      ∙ get_or-map-range_with_len f 0 (length A.view.pairs) place place components within (omega arith) in
      sym (get_or_from_slice_get I.components place components components found) ∙ there

  pub components_within : (components : List ℕ) → slice_get I.components place ≡ Some components → All (λ y. y < length A.progress.waits) components
  components_within components found =
      let P : ℕ → Type 0 = λ y. y < length A.progress.waits in
      let each : (e : PlantEdge) → IsPlantEdge A.view e → P (join_of A.view e).component =
      λ e edge. omega (arith, own_within A.view e.component edge.component, kept.rooms.progress.waits) in
      let joins : All (λ (j : Join). P j.component) (joins_of A.view) =
      All-map (λ (j : Join). P j.component) (join_of A.view) A.view.edges (λ k d h. each (get_or A.view.edges k d) (kept.view.edges k d h)) in
      subst (All P) (sym (components_are components found))
      (All-map P (λ (j : Join). j.component) (filter (λ j. j.demander == place) (joins_of A.view))
      (All-filter (λ (j : Join). j.demander == place) (λ (j : Join). P j.component) (joins_of A.view) joins))

  pub components_are_waiting : (components : List ℕ) → slice_get I.components place ≡ Some components
      → (y : ℕ) → y < length A.progress.waits → times y components ≤ slice_index A.progress.waits y
  components_are_waiting components found y low =
      subst (λ (z : List ℕ). times y z ≤ slice_index A.progress.waits y) (sym (components_are components found))
      (components_wait A.progress.waits (joins_of A.view) A.progress.planned
      (open_blocks (awaited A.view kept.taken.taken)) kept.taken.waits place free.unplanned y low)

  -- ---- where it is queued

  pub queues_begin : place + 1 < length I.queue_starts
  queues_begin = omega (arith, within, kept.indexes.queues.size)

  pub queues_rise : (slice_index I.queue_starts place ≤ slice_index I.queue_starts (place + 1)) × (slice_index I.queue_starts (place + 1) ≤ length I.queues)
  queues_rise = IsGrouped-within (λ (q : QueuePlace). q.pair) (length A.view.pairs)
      (queue_places (items_of A.view) A.view.outgoing) I.queues I.queue_starts place kept.indexes.queues within

  pub queues_are : {places : List QueuePlace} → places ≡ slice_range I.queues (slice_index I.queue_starts place) (slice_index I.queue_starts (place + 1))
      → places ≡ queues_at A.view place
  queues_are is = is ∙ kept.indexes.queues.slices place within

  pub lanes_known : {places : List QueuePlace} → places ≡ queues_at A.view place → All (λ q. q.lane < length A.outs) places
  lanes_known are = subst (All (λ (q : QueuePlace). q.lane < length A.outs)) (sym are) (queues_known A.view A.outs place kept.rooms.cursors.count)

  pub outs_settled : {places : List QueuePlace} {outs : List OutFigures} → places ≡ queues_at A.view place → outs ≡ fold with_queued A.outs places
      → AreOutsSettled A.view.outgoing (plant_pair_at A.view place).item A.outs outs
  outs_settled are e =
      subst (AreOutsSettled A.view.outgoing (plant_pair_at A.view place).item A.outs) (sym (e ∙ ap (fold with_queued A.outs) are))
      (all_queued A.view kept.view A.outs place kept.rooms.cursors.count within)

-- ---- the cursors

queue_size : (room : Bool) (o : OutFigures) (queue : List ℕ) → (if room then record o { queue = queue } else o).size ≡ o.size
queue_size true o queue = refl
queue_size false o queue = refl

pub queued_size : (o : OutFigures) (place : Option ℕ) → (queued_at o place).size ≡ o.size
queued_size o None = refl
queued_size o (Some place) = queue_size (nat_lt place o.size && nat_lt (length o.queue) o.size) o (o.queue ++ place ∷ [])

settled_size : (kind : LaneKind) (items : List ItemNo) (o : OutFigures) (item : ItemNo) → (queued_by kind items o item).size ≡ o.size
settled_size Despatch items o item = refl
settled_size Schedule items o item = queued_size o (place_among items item)

-- ---- what is kept

pub kept_marked : (A : AgentState) (I : Indexes) (place : ℕ) (item : ItemNo) (progress : Progress) (outs : List OutFigures) → IsKept A I
    → PairSettled (joins_of A.view) place A.progress progress
    → AreOutsSettled A.view.outgoing item A.outs outs → IsKept (record A { progress = progress; outs = outs }) I
kept_marked A I place item progress outs kept settled queued = record {
  view = kept.view;
  indexes = kept.indexes;
  rooms = record {
    books = kept.rooms.books;
    scheduled_receipts = kept.rooms.scheduled_receipts;
    outside_demand = kept.rooms.outside_demand;
    plans = kept.rooms.plans;
    progress = record {
      numbers = settled.numbers ∙ kept.rooms.progress.numbers;
      waits = settled.size ∙ kept.rooms.progress.waits;
      planned = ap length settled.planned ∙ length-set A.progress.planned place true ∙ kept.rooms.progress.planned;
    };
    cursors = record {
      count = queued.size ∙ kept.rooms.cursors.count;
      sizes = λ k low.
          let lane : OutgoingLane = outgoing_at A.view k in
          ap (λ (o : OutFigures). o.size) (queued.each k low)
          ∙ settled_size lane.kind (map (λ i. i.item) lane.items) (out_at A k) item
          ∙ kept.rooms.cursors.sizes k low;
    };
  };
  taken = record {
    taken = kept.taken.taken;
    books = kept.taken.books;
    waits = settled.counts (open_blocks (awaited A.view kept.taken.taken)) kept.taken.waits;
  };
}
