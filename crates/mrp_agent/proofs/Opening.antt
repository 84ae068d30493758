-- The agent: what it shows at first. Nothing has come, nothing was sent, and no pair is planned.
use Rattle.std.proofs.Common.{◌≡◌, ℕ, zero, suc, ◌+◌, ◌<◌, ◌≤◌, ◌^◌, ◌==◌, ◌&&◌, eqb, cond, not, Bool, false, List, [], ◌∷◌, ◌↔◌, inl, inr, length, get_or, map}
use Rattle.std.proofs.Common.{replicate, refl, sym, ap, ◌∙◌, subst, arith}
use Rattle.std.specs.List.{All, Contains, count_by, flat_map, sum_by}
use Rattle.std.proofs.Math.Bool.{and-true}
use Rattle.std.proofs.lemmas.Bool.{cases_lt}
use Rattle.std.proofs.lemmas.List.{get_or-map, get_or-replicate, length-map, length-replicate}
use Rattle.std.proofs.lemmas.List.Elements.{All-get_or, All-map, All-replicate}
use Rattle.std.proofs.lemmas.List.Sums.{sum_by-append, sum_by-cons}
use Rattle.mrp_qty.specs.declared.quantity.TheConstants.{MOST}
use Rattle.mrp_netting.specs.PlanRows.{PlanRows}
use Rattle.mrp_net.specs.declared.lane.LaneKind.{LaneKind}
use Rattle.mrp_net.specs.declared.lane.LaneKind.TheVariants.{Despatch, Schedule}
use Rattle.mrp_plant_view.specs.declared.view.IncomingItem.{IncomingItem}
use Rattle.mrp_plant_view.specs.declared.view.IncomingLane.{IncomingLane}
use Rattle.mrp_plant_view.specs.declared.view.OutgoingLane.{OutgoingLane}
use Rattle.mrp_plant_view.specs.declared.view.PlantEdge.{PlantEdge}
use Rattle.mrp_plant_view.specs.declared.view.PlantPair.{PlantPair}
use Rattle.mrp_plant_view.specs.Seen.{IsView, IsIncomingLane, IsPlantEdge}
use Rattle.mrp_plant_view.specs.View.{PlantRows}
use Rattle.mrp_netting.specs.Plan.{nothing_planned}
use Rattle.mrp_record.specs.declared.record.Record.{Record}
use Rattle.mrp_record.specs.Form.{FormItem}
use Rattle.mrp_book.specs.declared.item.BookItem.{BookItem}
use Rattle.mrp_book.specs.Figures as book
use Rattle.mrp_book.specs.Figures.{Figures}
use Rattle.mrp_book.proofs.Opening.{empty_in_form, items_once}
use Rattle.mrp_record.specs.Cursor.{OutFigures}
use Rattle.mrp_record.proofs.Lists.{range_below, range_has}
use Rattle.mrp_readiness.specs.declared.join.Join.{Join}
use Rattle.mrp_readiness.specs.Counts.{Awaited, AreCounts, open_blocks}
use Rattle.mrp_readiness.specs.Progress.{Progress, is_planned, times}
use Rattle.mrp_protocol.specs.Goods.{goods_of, IsSendable}
use Rattle.mrp_protocol.specs.LocalPlans.{amount_at, booked_on, lanes_in}
use Rattle.mrp_agent.specs.State.{AgentState, incoming_at, outgoing_at, book_at, out_at, no_book, no_incoming, pair_place, plans_of}
use Rattle.mrp_agent.specs.Shows.{ShowsHistory, OutShows, BooksShow, awaited, awaited_on, block_awaited, book_item, form_of, join_of, joins_of, up_to_last}
use Rattle.mrp_agent.specs.Kept.{parent_edge, HasPlanRows, HasRooms, HasSmallItems, HasSmallOpenings, Indexes, AreIndexes, IsKept}
use Rattle.mrp_agent.specs.Making.{AreFit, AreIdleOuts, IsFirstProgress, IsIdleLane, idle_queue, new_figures, place_awaited}
use Rattle.mrp_agent.specs.declared.edges.ParentEdge.{ParentEdge}
use Rattle.mrp_agent.proofs.Made.{books_once}
use Rattle.mrp_agent.proofs.Owning.{own_within}

-- no lane has brought or sent a record, and no pair is planned
abbrev pub nothing : ℕ → List Record
nothing l = []

abbrev pub none_planned : ℕ → Bool
none_planned x = false

-- ---- books

small_items : (items : List IncomingItem) → All (λ i. i.opening ≤ MOST) items → All (λ i. i.opening ≤ MOST) (map book.book_form_item (map book_item items))
small_items items h =
    All-map (λ (i : FormItem). i.opening ≤ MOST) book.book_form_item (map book_item items) (All-map (λ (i : BookItem). i.opening ≤ MOST) book_item items h)

pub book_opens : (V : PlantRows) (lane : IncomingLane) → IsIncomingLane V lane → HasSmallItems lane → book.BookShows (form_of V lane) (new_figures V lane) []
book_opens V lane is small = record {
  lane = record { once = items_once (map book_item lane.items) (books_once lane.items is.once); openings = small_items lane.items small };
  in_form = empty_in_form (form_of V lane);
  is = refl;
}

-- ---- blocks

blocks_on : (V : PlantRows) (lane : IncomingLane) (y : ℕ) (items : List IncomingItem)
    → count_by (λ b. (b.pair == y) && not b.ended) (map (block_awaited V nothing lane) items) ≡ count_by (λ c. c == y) (map (place_awaited V) items)
blocks_on V lane y [] = refl
blocks_on V lane y (i ∷ items) =
    let p : Awaited → Bool = λ b. eqb b.pair y && not b.ended in
    let q : ℕ → Bool = λ c. eqb c y in
    let rest = blocks_on V lane y items in
    let left = sum_by-cons (λ (b : Awaited). cond (p b) 1 0) (block_awaited V nothing lane i) (map (block_awaited V nothing lane) items) in
    let right = sum_by-cons (λ (c : ℕ). cond (q c) 1 0) (place_awaited V i) (map (place_awaited V) items) in
    let here : ◌≡◌ {A = ℕ} (cond (p (block_awaited V nothing lane i)) 1 0) (cond (q (place_awaited V i)) 1 0) =
    ap (λ (b : Bool). cond {A = ℕ} b 1 0) (and-true (eqb (place_awaited V i) y)) in
    omega (arith, left, right, here, rest)

abbrev open_on : PlantRows → List IncomingLane → ℕ → ℕ
open_on V lanes y = open_blocks (flat_map (awaited_on V nothing) lanes) y

abbrev times_on : PlantRows → List IncomingLane → ℕ → ℕ
times_on V lanes y = times y (flat_map (λ lane. map (place_awaited V) lane.items) lanes)

blocks_open : (V : PlantRows) (y : ℕ) (lanes : List IncomingLane) → open_on V lanes y ≡ times_on V lanes y
blocks_open V y [] = refl
blocks_open V y (lane ∷ lanes) =
    let left = sum_by-append (λ (b : Awaited). cond (eqb b.pair y && not b.ended) 1 0) (awaited_on V nothing lane) (flat_map (awaited_on V nothing) lanes) in
    let right = sum_by-append (λ (c : ℕ). cond (eqb c y) 1 0) (map (place_awaited V) lane.items)
    (flat_map (λ (l : IncomingLane). map (place_awaited V) l.items) lanes) in
    omega (arith, left, right, blocks_on V lane y lane.items, blocks_open V y lanes)

pub first_awaits : (V : PlantRows) (progress : Progress) → IsFirstProgress V progress
    → AreCounts progress.waits (joins_of V) progress.planned (open_blocks (awaited V nothing))
first_awaits V progress h = record { counted = λ y within. omega (arith, h.waits.counted y within, blocks_open V y V.incoming) }

-- ---- sums

zeros : {X : Type 0} (xs : List X) → sum_by (λ (x : X). 0) xs ≡ 0
zeros [] = refl
zeros {X} (x ∷ xs) = omega (arith, sum_by-cons (λ (x : X). 0) x xs, zeros xs)

pub nothing_booked : (kind : LaneKind) (V : PlantRows) (p : PlantPair) (t : ℕ) → booked_on kind V nothing p.item t ≡ 0
nothing_booked kind V p t = zeros (lanes_in kind V)

-- an amount of 64 bits is itself, however far sums go
pub amount_shown : (a b : ℕ) → a < 2 ^ 64 → b ≡ 0 → a ≡ up_to_last (a + b)
amount_shown a b fits none = omega (arith, none)

-- ---- pairs

pub unplanned : (n k : ℕ) → is_planned (replicate n false) k ≡ false
unplanned n k = elim (cases_lt k n) [
  | inl within ↦ get_or-replicate n k false false within
  | inr past ↦ beyond n k past
]
  where
    beyond : (n k : ℕ) → n ≤ k → get_or (replicate n false) k false ≡ false
    beyond zero k past = refl
    beyond (suc n) zero past = refl
    beyond (suc n) (suc k) past = beyond n k (omega arith)

-- ---- cursors

none_there : (j : ℕ) → Contains [] j → ⊥
none_there j (k, within, is) = omega (arith, within)

sendable : (kind : LaneKind) (lane : OutgoingLane) (j : ℕ) → lane.kind ≡ kind → Contains (idle_queue kind (length lane.items)) j
    ↔ IsSendable none_planned lane j
sendable Despatch lane j k = (
  λ there. record { within = range_below (length lane.items) j there; decided = λ s. let differs : Despatch ≡ Schedule = sym k ∙ s in absurd (cc differs) },
  λ s. range_has (length lane.items) j s.within,
)
sendable Schedule lane j k = (λ there. absurd (none_there j there), λ s. absurd (cc (s.decided k)))

pub idle_shows : (V : PlantRows) (plans : ℕ → PlanRows) (lane : OutgoingLane) (o : OutFigures) → IsIdleLane lane o
    → (j : ℕ) → Contains o.queue j ↔ IsSendable none_planned lane j
idle_shows V plans lane o h j = subst (λ (queue : List ℕ). Contains queue j ↔ IsSendable none_planned lane j) (sym h.queue) (sendable lane.kind lane j refl)

-- ---- all of it

-- an agent before the first record
abbrev pub opened : PlantRows → Progress → List OutFigures → AgentState
opened V progress outs = record {
  view = V;
  books = map (new_figures V) V.incoming;
  scheduled_receipts = V.receipts;
  outside_demand = V.demands;
  plans = replicate (length V.pairs) (nothing_planned V.horizon);
  progress = progress;
  outs = outs;
}

module _ (V : PlantRows) (progress : Progress) (outs : List OutFigures) (view : IsView V) (small : HasSmallOpenings V) (first : IsFirstProgress V progress)
    (idle : AreIdleOuts V.outgoing outs) where
  pub books_open : BooksShow (opened V progress outs) nothing
  books_open k within =
      let lane : IncomingLane = incoming_at V k in
      let is = All-get_or (IsIncomingLane V) V.incoming k no_incoming within view.incoming in
      let few = All-get_or HasSmallItems V.incoming k no_incoming within small in
      let at : book_at (opened V progress outs) k ≡ new_figures V lane = get_or-map (new_figures V) V.incoming k no_incoming no_book within in
      subst (λ (b : Figures). book.BookShows (form_of V lane) b []) (sym at) (book_opens V lane is few)

  cursors_open : (k : ℕ) → k < length V.outgoing → OutShows (opened V progress outs) nothing nothing none_planned k
  cursors_open k within =
      let is : IsIdleLane (outgoing_at V k) (out_at (opened V progress outs) k) = idle.idle k (omega (arith, within, idle.size)) in
      record {
        size = is.size_is;
        shows = is.shows (goods_of V nothing (plans_of (opened V progress outs)) (outgoing_at V k));
        queued = idle_shows V (plans_of (opened V progress outs)) (outgoing_at V k) (out_at (opened V progress outs) k) is;
      }

  pub opening_shows : AreFit V.receipts → AreFit V.demands → ShowsHistory (opened V progress outs) nothing nothing none_planned
  opening_shows receipts demands = record {
    books = books_open;
    waits = first_awaits V progress first;
    scheduled_receipts = λ p there t within. amount_shown (amount_at V V.receipts p.number t) (booked_on Despatch V nothing p.item t) (receipts _)
        (nothing_booked Despatch V p t);
    outside_demand = λ p there t within. amount_shown (amount_at V V.demands p.number t) (booked_on Schedule V nothing p.item t) (demands _)
        (nothing_booked Schedule V p t);
    planned_are = λ p there. sym (ap (λ (z : List Bool). is_planned z (pair_place V p.number.0)) first.planned
        ∙ unplanned (length V.pairs) (pair_place V p.number.0));
    local = λ k d within done. absurd (cc done);
    outs = cursors_open;
  }

  has_periods : HasPlanRows V (nothing_planned V.horizon)
  has_periods = record { gross = length-replicate V.horizon 0; release = length-replicate V.horizon 0 }

  rooms_open : HasRooms (opened V progress outs)
  rooms_open = record {
    books = length-map V.incoming (new_figures V);
    scheduled_receipts = view.receipts;
    outside_demand = view.demands;
    plans = record {
      count = length-replicate (length V.pairs) (nothing_planned V.horizon);
      periods = All-replicate (HasPlanRows V) (length V.pairs) (nothing_planned V.horizon) has_periods;
    };
    progress = record {
      numbers = first.numbers;
      waits = first.size;
      planned = ap (λ (z : List Bool). length z) first.planned ∙ length-replicate (length V.pairs) false;
    };
    cursors = record { count = idle.size; sizes = λ k within. (cursors_open k within).size };
  }

  pub opening_kept : (I : Indexes) → AreIndexes V I → IsKept (opened V progress outs) I
  opening_kept I indexes = record {
    view = view;
    indexes = indexes;
    rooms = rooms_open;
    taken = record { taken = nothing; books = books_open; waits = first_awaits V progress first };
  }

-- ---- as it is made

joins_mapped : (V : PlantRows) (edges : List PlantEdge) → map (λ e. record { component = e.component; demander = e.parent }) (map (parent_edge V) edges)
    ≡ map (join_of V) edges
joins_mapped V [] = refl
joins_mapped V (e ∷ edges) = ap (λ (z : List Join). join_of V e ∷ z) (joins_mapped V edges)

pub joins_made : (V : PlantRows) {edges : List PlantEdge} {parents seen : List ParentEdge} {joins : List Join} → edges ≡ V.edges
    → parents ≡ map (parent_edge V) edges → seen ≡ parents
    → joins ≡ map (λ e. record { component = e.component; demander = e.parent }) seen → joins ≡ joins_of V
joins_made V {edges} {parents} {seen} {joins} edges_are are same e =
    e
    ∙ ap (λ (z : List ParentEdge). map (λ e. record { component = e.component; demander = e.parent }) z)
    (same ∙ are ∙ ap (λ (z : List PlantEdge). map (parent_edge V) z) edges_are)
    ∙ joins_mapped V V.edges

pub components_known : (V : PlantRows) {pairs : List PlantPair} {edges : List PlantEdge} {parents seen : List ParentEdge} → All (IsPlantEdge V) V.edges
    → pairs ≡ V.pairs → edges ≡ V.edges
    → parents ≡ map (parent_edge V) edges → seen ≡ parents → All (λ e. e.component < length pairs) seen
components_known V {pairs} {edges} {parents} {seen} h pairs_are edges_are are same =
    let P : ℕ → ParentEdge → Type 0 = λ n e. e.component < n in
    let known : All (P (length V.pairs)) (map (parent_edge V) V.edges) =
    All-map (P (length V.pairs)) (parent_edge V) V.edges (λ k d within. own_within V (get_or V.edges k d).component (h k d within).component) in
    subst (λ (z : List PlantPair). All (P (length z)) seen) (sym pairs_are)
    (subst (All (P (length V.pairs))) (sym (same ∙ are ∙ ap (λ (z : List PlantEdge). map (parent_edge V) z) edges_are)) known)

pub component_joins_known : (V : PlantRows) {joins : List Join} → All (IsPlantEdge V) V.edges → joins ≡ joins_of V
    → All (λ j. j.component < length V.pairs) joins
component_joins_known V {joins} h is =
    let P : Join → Type 0 = λ j. j.component < length V.pairs in
    subst (All P) (sym is) (All-map P (join_of V) V.edges (λ k d within. own_within V (get_or V.edges k d).component (h k d within).component))

pub demander_joins_known : (V : PlantRows) {pairs : List PlantPair} {joins : List Join} → All (IsPlantEdge V) V.edges → pairs ≡ V.pairs → joins ≡ joins_of V
    → All (λ j. j.demander < length pairs) joins
demander_joins_known V {pairs} {joins} h pairs_are is =
    let P : ℕ → Join → Type 0 = λ n j. j.demander < n in
    let known : All (P (length V.pairs)) (joins_of V) = All-map (P (length V.pairs)) (join_of V) V.edges
    (λ k d within. own_within V (get_or V.edges k d).parent (h k d within).parent) in
    subst (λ (z : List PlantPair). All (P (length z)) joins) (sym pairs_are) (subst (All (P (length V.pairs))) (sym is) known)

-- the books, sums and plans that are made are those of the opening
pub record AreMade (V : PlantRows) (books : List Figures) (receipts demand : List ℕ) (plans : List PlanRows) : Type 0 where
  pub books_are : books ≡ map (new_figures V) V.incoming
  pub receipts_are : receipts ≡ V.receipts
  pub demand_is : demand ≡ V.demands
  pub plans_are : plans ≡ replicate (length V.pairs) (nothing_planned V.horizon)

abbrev pub agent_of : PlantRows → List Figures → List ℕ → List ℕ → List PlanRows → Progress → List OutFigures → AgentState
agent_of V books receipts demand plans progress outs =
    record { view = V; books = books; scheduled_receipts = receipts; outside_demand = demand; plans = plans; progress = progress; outs = outs }

pub agent_opened : (V : PlantRows) (books : List Figures) (receipts demand : List ℕ) (plans : List PlanRows) (progress : Progress) (outs : List OutFigures)
    → AreMade V books receipts demand plans
    → agent_of V books receipts demand plans progress outs ≡ opened V progress outs
agent_opened V books receipts demand plans progress outs h =
    ap (λ (z : List Figures). agent_of V z receipts demand plans progress outs) h.books_are
    ∙ ap (λ (z : List ℕ). agent_of V (map (new_figures V) V.incoming) z demand plans progress outs) h.receipts_are
    ∙ ap (λ (z : List ℕ). agent_of V (map (new_figures V) V.incoming) V.receipts z plans progress outs) h.demand_is
    ∙ ap (λ (z : List PlanRows). agent_of V (map (new_figures V) V.incoming) V.receipts V.demands z progress outs) h.plans_are
