-- The agent: a pair that it has planned is queued on each schedule lane that has its item.
use Rattle.std.proofs.Common.{◌≡◌, ℕ, zero, suc, ◌+◌, ◌<◌, ◌≤◌, ◌==◌, eqb, cond, Bool, true, Option, Some, None, List, [], ◌∷◌, ◌++◌, inl, inr, length, get_or}
use Rattle.std.proofs.Common.{map, set, refl, sym, ap, ◌∙◌, subst, arith, add-one, append_assoc}
use Rattle.std.specs.List.{All, count_by, filter, flat_map, fold, position_or_len, range_with_len}
use Rattle.std.proofs.lemmas.Bool.{cases_Bool, cases_eq, eq-eqb, eqb-true, ne_eqb}
use Rattle.std.proofs.lemmas.List.{get_or-map, get_or-set_same, get_or-set_other, length-map, length-set}
use Rattle.std.proofs.lemmas.List.Elements.{All-cons, All-filter, All-head, All-nil, All-tail}
use Rattle.std.proofs.lemmas.List.Quantifiers.{position-Some}
use Rattle.std.proofs.lemmas.List.Sums.{fold-append}
use Rattle.mrp_master_data.specs.declared.numbers.ItemNo.{ItemNo}
use Rattle.mrp_net.specs.declared.lane.LaneKind.{LaneKind}
use Rattle.mrp_net.specs.declared.lane.LaneKind.TheVariants.{Despatch, Schedule}
use Rattle.mrp_net.proofs.Routing.{All-flat_map-range, flat_map-range-more}
use Rattle.mrp_plant_view.specs.declared.view.OutgoingLane.{OutgoingLane}
use Rattle.mrp_plant_view.specs.declared.view.PlantPair.{PlantPair}
use Rattle.mrp_plant_view.specs.Loads.{OutgoingLoad, load_at, no_load}
use Rattle.mrp_plant_view.proofs.Once.{count-map}
use Rattle.mrp_plant_view.specs.Seen.{IsView}
use Rattle.mrp_plant_view.specs.View.{PlantRows}
use Rattle.mrp_record.specs.Cursor.{OutFigures}
use Rattle.mrp_record.specs.Next.{queued}
use Rattle.mrp_agent.specs.declared.queues.QueuePlace.{QueuePlace}
use Rattle.mrp_agent.specs.After.{AreOutsSettled, items_of, place_among, queued_at, queued_by, settled_out}
use Rattle.mrp_agent.specs.Queues.{item_queues, lane_queues, lane_queues_at, queue_place, queue_places, with_queued}
use Rattle.mrp_agent.specs.State.{no_out, no_outgoing, no_plant_pair, outgoing_at, plant_pair_at}
use Rattle.mrp_agent.proofs.Looking.{place_is_only, place_known}

-- ---- lists that are made for each number of a range

-- one list more behind what was there
pub range_more : {X : Type 0} (f : ℕ → List X) (k : ℕ) (before so_far next : List X) → so_far ≡ before ++ flat_map f (range_with_len 0 k) → next ≡ so_far ++ f k
    → next ≡ before ++ flat_map f (range_with_len 0 (k + 1))
range_more {X} f k before so_far next e grown =
    grown
    ∙ ap (λ (z : List X). z ++ f k) e
    ∙ append_assoc before (flat_map f (range_with_len 0 k)) (f k)
    ∙ ap (λ (z : List X). before ++ z) (sym (flat_map-range-more f k))

module _ {X Y : Type 0} (F : Y → X → Y) (f : ℕ → List X) where
  -- one list more
  folds_on : (n : ℕ) (o : Y) → fold F o (flat_map f (range_with_len 0 (suc n))) ≡ fold F (fold F o (flat_map f (range_with_len 0 n))) (f n)
  folds_on n o =
      ap (λ (z : ℕ). fold F o (flat_map f (range_with_len 0 z))) (sym (add-one n))
      ∙ ap (fold F o) (flat_map-range-more f n)
      ∙ fold-append F o (flat_map f (range_with_len 0 n)) (f n)

  -- none of them changes anything
  pub none_changes : (n : ℕ) → ((i : ℕ) → i < n → (o : Y) → fold F o (f i) ≡ o) → (o : Y) → fold F o (flat_map f (range_with_len 0 n)) ≡ o
  none_changes zero same o = refl
  none_changes (suc n) same o =
      folds_on n o
      ∙ ap (λ (z : Y). fold F z (f n)) (none_changes n (λ i low. same i (omega arith)) o)
      ∙ same n (omega arith) o

  -- one of them changes something
  pub one_changes : (m n : ℕ) → m < n → ((i : ℕ) → i < n → (i ≡ m → ⊥) → (o : Y) → fold F o (f i) ≡ o) → (o : Y)
      → fold F o (flat_map f (range_with_len 0 n)) ≡ fold F o (f m)
  one_changes m zero within same o = absurd (omega arith)
  one_changes m (suc n) within same o =
      folds_on n o
      ∙ elim (cases_eq n m) as (λ _. fold F (fold F o (flat_map f (range_with_len 0 n))) (f n) ≡ fold F o (f m)) [
        | inl last ↦
            ap (λ (z : Y). fold F z (f n)) (none_changes n (λ i low. same i (omega arith) (λ e. omega arith)) o)
            ∙ ap (λ (z : ℕ). fold F o (f z)) last
        | inr other ↦
            same n (omega arith) other (fold F o (flat_map f (range_with_len 0 n)))
            ∙ one_changes m n (omega (arith, other)) (λ i low. same i (omega arith)) o
      ]

-- ---- the cursor of one lane

-- a queue place on the lane queues its item
abbrev on_lane : ℕ → OutFigures → QueuePlace → OutFigures
on_lane k o q = cond (eqb q.lane k) (queued o q.item) o

-- the same of those of one pair
abbrev on_lane_of : ℕ → ℕ → OutFigures → QueuePlace → OutFigures
on_lane_of place k o q = cond (eqb q.pair place) (on_lane k o q) o

one_queued : (k : ℕ) (outs : List OutFigures) (q : QueuePlace) → q.lane < length outs
    → get_or (with_queued outs q) k no_out ≡ on_lane k (get_or outs k no_out) q
one_queued k outs q within =
    let new : OutFigures = queued (get_or outs q.lane no_out) q.item in
    elim (cases_eq q.lane k) as (λ _. get_or (set outs q.lane new) k no_out ≡ on_lane k (get_or outs k no_out) q) [
      | inl here ↦
          ap (λ (z : ℕ). get_or (set outs q.lane new) z no_out) (sym here)
          ∙ get_or-set_same outs q.lane new no_out within
          ∙ ap (λ (z : ℕ). queued (get_or outs z no_out) q.item) here
          ∙ sym (rw (eq-eqb q.lane k here) refl)
      | inr other ↦
          get_or-set_other outs q.lane k new no_out (λ e. other (sym e))
          ∙ sym (rw (ne_eqb q.lane k other) refl)
    ]

pub lane_queued : (k : ℕ) (outs : List OutFigures) (places : List QueuePlace) → All (λ q. q.lane < length outs) places
    → get_or (fold with_queued outs places) k no_out ≡ fold (on_lane k) (get_or outs k no_out) places
lane_queued k outs [] within = refl
lane_queued k outs (q ∷ places) within =
    let next : List OutFigures = with_queued outs q in
    let size : length next ≡ length outs = length-set outs q.lane (queued (get_or outs q.lane no_out) q.item) in
    let rest : All (λ (q : QueuePlace). q.lane < length next) places =
    subst (λ (n : ℕ). All (λ (q : QueuePlace). q.lane < n) places) (sym size) (All-tail (λ (q : QueuePlace). q.lane < length outs) q places within) in
    lane_queued k next places rest
    ∙ ap (λ (o : OutFigures). fold (on_lane k) o places) (one_queued k outs q (All-head (λ (q : QueuePlace). q.lane < length outs) q places within))

pub length-queued : (outs : List OutFigures) (places : List QueuePlace) → length (fold with_queued outs places) ≡ length outs
length-queued outs [] = refl
length-queued outs (q ∷ places) = length-queued (with_queued outs q) places ∙ length-set outs q.lane (queued (get_or outs q.lane no_out) q.item)

fold_filtered : (place k : ℕ) (o : OutFigures) (places : List QueuePlace)
    → fold (on_lane k) o (filter (λ q. q.pair == place) places) ≡ fold (on_lane_of place k) o places
fold_filtered place k o [] = refl
fold_filtered place k o (q ∷ places) =
    elim (cases_Bool (eqb q.pair place)) as (λ _. fold (on_lane k) o (filter (λ q. q.pair == place) (q ∷ places)) ≡ fold (on_lane_of place k) o (q ∷ places)) [
      | inl mine ↦ rw mine (fold_filtered place k (on_lane k o q) places)
      | inr other ↦ rw other (fold_filtered place k o places)
    ]

-- ---- the queue places of a pair

-- that of an item of the pair
mine_queued : (place k j : ℕ) (o : OutFigures) → fold (on_lane_of place k) o (queue_place (Some place) k j) ≡ queued o j
mine_queued place k j o = rw (eq-eqb place place refl) (rw (eq-eqb k k refl) refl)

-- that of another pair's
other_pair : (place k i j : ℕ) (found : Option ℕ) → (found ≡ Some place → ⊥) → (o : OutFigures) → fold (on_lane_of place k) o (queue_place found i j) ≡ o
other_pair place k i j None not o = refl
other_pair place k i j (Some pair) not o = rw (ne_eqb pair place (λ e. not (ap (λ (z : ℕ). Some z) e))) refl

-- that on another lane
other_lane : (place k i j : ℕ) (found : Option ℕ) → (i ≡ k → ⊥) → (o : OutFigures) → fold (on_lane_of place k) o (queue_place found i j) ≡ o
other_lane place k i j None not o = refl
other_lane place k i j (Some pair) not o =
    elim (cases_Bool (eqb pair place)) as (λ _. on_lane_of place k o (record { pair = pair; lane = i; item = j }) ≡ o) [
      | inl mine ↦ rw mine (rw (ne_eqb i k not) refl)
      | inr theirs ↦ rw theirs refl
    ]

lane_apart : (kind : LaneKind) (pairs : List ItemNo) (items : List OutgoingLoad) (place k i : ℕ) → (i ≡ k → ⊥) → (o : OutFigures)
    → fold (on_lane_of place k) o (lane_queues kind pairs i items) ≡ o
lane_apart Despatch pairs items place k i not o = refl
lane_apart Schedule pairs items place k i not o =
    none_changes (on_lane_of place k) (λ (j : ℕ). queue_place (place_among pairs (load_at items j).item) i j) (length items)
    (λ j low. other_lane place k i j (place_among pairs (load_at items j).item) not) o

-- ---- where an item stands in a list that has each once

item_there : {X : Type 0} (item : X → ItemNo) (xs : List X) (k : ℕ) (d : X) (i : ItemNo) → place_among (map item xs) i ≡ Some k
    → (k < length xs) × ((item (get_or xs k d)).0 ≡ i.0)
item_there {X} item xs k d i found =
    let at = position-Some (λ (z : ItemNo). eqb z.0 i.0) (map item xs) k i found in
    let within : k < length xs = omega (arith, at.0, length-map xs item) in (
      within,
      sym (ap (λ (z : ItemNo). z.0) (get_or-map item xs k d i within)) ∙ eqb-true (get_or (map item xs) k i).0 i.0 at.1,
    )

item_found : {X : Type 0} (item : X → ItemNo) (xs : List X) (k : ℕ) (d : X) (i : ItemNo) → ((n : ℕ) → count_by (λ x. (item x).0 == n) xs ≤ 1) → k < length xs
    → (item (get_or xs k d)).0 ≡ i.0
    → place_among (map item xs) i ≡ Some k
item_found {X} item xs k d i once within same =
    let test : ItemNo → Bool = λ z. eqb z.0 i.0 in
    let items : List ItemNo = map item xs in
    let size : length items ≡ length xs = length-map xs item in
    let passes : test (get_or items k i) ≡ true = eq-eqb (get_or items k i).0 i.0 (ap (λ (z : ItemNo). z.0) (get_or-map item xs k d i within) ∙ same) in
    let few : count_by test items ≤ 1 = omega (arith, count-map test item xs, once i.0) in
    let only : position_or_len test items ≡ k = place_is_only test items k i few (omega (arith, within, size)) passes in
    place_known test items (omega (arith, only, within, size)) ∙ ap (λ (z : ℕ). Some z) only

-- ---- the pair at a place

module _ (V : PlantRows) (view : IsView V) (place : ℕ) (within : place < length V.pairs) where
  is_mine : (i : ItemNo) → i.0 ≡ (plant_pair_at V place).item.0 → place_among (items_of V) i ≡ Some place
  is_mine i same = item_found (λ (p : PlantPair). p.item) V.pairs place no_plant_pair i view.items_once within (sym same)

  is_other : (i : ItemNo) → (i.0 ≡ (plant_pair_at V place).item.0 → ⊥) → place_among (items_of V) i ≡ Some place → ⊥
  is_other i not found = not (sym (item_there (λ (p : PlantPair). p.item) V.pairs place no_plant_pair i found).1)

  -- the items of a schedule lane
  items_queued : (items : List OutgoingLoad) → ((i : ℕ) → count_by (λ z. z.item.0 == i) items ≤ 1) → (k : ℕ) (m : Option ℕ)
      → place_among (map (λ z. z.item) items) (plant_pair_at V place).item ≡ m
      → (o : OutFigures) → fold (on_lane_of place k) o (item_queues (items_of V) k items) ≡ queued_at o m
  items_queued items once k None none o =
      none_changes (on_lane_of place k) (λ (j : ℕ). queue_place (place_among (items_of V) (load_at items j).item) k j) (length items)
      (λ j low. other_pair place k k j (place_among (items_of V) (load_at items j).item)
      (is_other (load_at items j).item
      (λ same. let found = item_found (λ (z : OutgoingLoad). z.item) items j no_load (plant_pair_at V place).item once low same in absurd (cc (none, found)))))
      o
  items_queued items once k (Some m) found o =
      let there = item_there (λ (z : OutgoingLoad). z.item) items m no_load (plant_pair_at V place).item found in
      one_changes (on_lane_of place k) (λ (j : ℕ). queue_place (place_among (items_of V) (load_at items j).item) k j) m (length items) there.0
      (λ j low not. other_pair place k k j (place_among (items_of V) (load_at items j).item)
      (is_other (load_at items j).item
      (λ same.
      let again : Some j ≡ Some m = sym (item_found (λ (z : OutgoingLoad). z.item) items j no_load (plant_pair_at V place).item once low same) ∙ found in
      let e : j ≡ m = cc in
      not e)))
      o
      ∙ ap (λ (z : Option ℕ). fold (on_lane_of place k) o (queue_place z k m)) (is_mine (load_at items m).item there.1)
      ∙ mine_queued place k m o

  kind_queued : (kind : LaneKind) (items : List OutgoingLoad) → ((i : ℕ) → count_by (λ z. z.item.0 == i) items ≤ 1) → (k : ℕ) (o : OutFigures)
      → fold (on_lane_of place k) o (lane_queues kind (items_of V) k items) ≡ queued_by kind (map (λ z. z.item) items) o (plant_pair_at V place).item
  kind_queued Despatch items once k o = refl
  kind_queued Schedule items once k o = items_queued items once k (place_among (map (λ z. z.item) items) (plant_pair_at V place).item) refl o

  -- the cursor of a lane after the queue places of the pair
  cursor_queued : (k : ℕ) → k < length V.outgoing → (o : OutFigures)
      → fold (on_lane k) o (filter (λ q. q.pair == place) (queue_places (items_of V) V.outgoing)) ≡ settled_out (outgoing_at V k) o (plant_pair_at V place).item
  cursor_queued k low o =
      fold_filtered place k o (queue_places (items_of V) V.outgoing)
      ∙ one_changes (on_lane_of place k) (lane_queues_at (items_of V) V.outgoing) k (length V.outgoing) low
      (λ i _ not. lane_apart (outgoing_at V i).kind (items_of V) (outgoing_at V i).items place k i not) o
      ∙ kind_queued (outgoing_at V k).kind (outgoing_at V k).items (view.outgoing k no_outgoing low).once k o

-- ---- what the queue places name

-- a pair, and a lane below n
abbrev Names : ℕ → ℕ → QueuePlace → Type 0
Names pairs lanes q = (q.pair < pairs) × (q.lane < lanes)

place_names : (pairs : List ItemNo) (i : ItemNo) (k j n : ℕ) → k < n → (found : Option ℕ) → place_among pairs i ≡ found
    → All (Names (length pairs) n) (queue_place found k j)
place_names pairs i k j n low None e = All-nil (Names (length pairs) n)
place_names pairs i k j n low (Some pair) e =
    let at = position-Some (λ (p : ItemNo). eqb p.0 i.0) pairs pair i e in
    All-cons (Names (length pairs) n) (record { pair = pair; lane = k; item = j }) [] (at.0, low) (All-nil (Names (length pairs) n))

lane_names : (pairs : List ItemNo) (kind : LaneKind) (items : List OutgoingLoad) (k n : ℕ) → k < n
    → All (Names (length pairs) n) (lane_queues kind pairs k items)
lane_names pairs Despatch items k n low = All-nil (Names (length pairs) n)
lane_names pairs Schedule items k n low =
    All-flat_map-range (Names (length pairs) n) (λ (j : ℕ). queue_place (place_among pairs (load_at items j).item) k j) (length items)
    (λ j _. place_names pairs (load_at items j).item k j n low (place_among pairs (load_at items j).item) refl)

-- pairs and lanes of the plant
all_name : (pairs : List ItemNo) (lanes : List OutgoingLane) → All (Names (length pairs) (length lanes)) (queue_places pairs lanes)
all_name pairs lanes =
    All-flat_map-range (Names (length pairs) (length lanes)) (lane_queues_at pairs lanes) (length lanes)
    (λ k low. lane_names pairs (get_or lanes k no_outgoing).kind (get_or lanes k no_outgoing).items k (length lanes) low)

pub pairs_known : (pairs : List ItemNo) (lanes : List OutgoingLane) {n : ℕ} {places : List QueuePlace} → length pairs ≡ n → places ≡ queue_places pairs lanes
    → All (λ q. q.pair < n) places
pairs_known pairs lanes {n} {places} size is =
    subst (All (λ (q : QueuePlace). q.pair < n)) (sym is) (λ i d low. omega (arith, (all_name pairs lanes i d low).0, size))

-- ---- the cursors after a pair is planned

-- the queue places of the pair at a place
abbrev pub queues_at : PlantRows → ℕ → List QueuePlace
queues_at V place = filter (λ q. q.pair == place) (queue_places (items_of V) V.outgoing)

pub queues_known : (V : PlantRows) (outs : List OutFigures) (place : ℕ) → length outs ≡ length V.outgoing → All (λ q. q.lane < length outs) (queues_at V place)
queues_known V outs place size =
    All-filter (λ (q : QueuePlace). q.pair == place) (λ (q : QueuePlace). q.lane < length outs) (queue_places (items_of V) V.outgoing)
    (λ i d low. omega (arith, (all_name (items_of V) V.outgoing i d low).1, size))

pub all_queued : (V : PlantRows) → IsView V → (outs : List OutFigures) (place : ℕ) → length outs ≡ length V.outgoing → place < length V.pairs
    → AreOutsSettled V.outgoing (plant_pair_at V place).item outs (fold with_queued outs (queues_at V place))
all_queued V view outs place size within = record {
  size = length-queued outs (queues_at V place);
  each = λ k low.
      lane_queued k outs (queues_at V place) (queues_known V outs place size)
      ∙ cursor_queued V view place within k low (get_or outs k no_out);
}
