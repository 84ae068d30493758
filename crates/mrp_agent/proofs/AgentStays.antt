-- The agent: what it shows depends on its own lanes and pairs alone.
use Rattle.std.proofs.Common.{◌≡◌, ℕ, ◌+◌, ◌-◌, ◌<◌, true, List, [], ◌∷◌, ◌++◌, length, get_or, map, refl, sym, ap, ◌∙◌, subst, All}
use Rattle.std.specs.List.{flat_map, range_with_len}
use Rattle.std.proofs.lemmas.List.Elements.{All-filter, All-contains, All-head, All-tail}
use Rattle.mrp_netting.specs.PlanRows.{PlanRows}
use Rattle.mrp_netting.specs.PlanningData.{planned as data_of_terms, one}
use Rattle.mrp_master_data.specs.declared.numbers.ItemNo.{ItemNo}
use Rattle.mrp_master_data.specs.declared.numbers.PairNo.{PairNo}
use Rattle.mrp_master_data.specs.Table.{Table}
use Rattle.mrp_net.specs.declared.lane.LaneKind.{LaneKind}
use Rattle.mrp_net.specs.declared.lane.LaneKind.TheVariants.{Despatch, Schedule}
use Rattle.mrp_net.proofs.Covering.{sum_by-same}
use Rattle.mrp_plant_view.specs.declared.view.IncomingItem.{IncomingItem}
use Rattle.mrp_plant_view.specs.declared.view.IncomingLane.{IncomingLane}
use Rattle.mrp_plant_view.specs.declared.view.OutgoingLane.{OutgoingLane}
use Rattle.mrp_plant_view.specs.declared.view.PlantPair.{PlantPair}
use Rattle.mrp_plant_view.specs.Loads as view
use Rattle.mrp_plant_view.specs.Seen.{IsView, IsOwnPair, lane_before}
use Rattle.mrp_plant_view.specs.View.{PlantRows, plant_rows}
use Rattle.mrp_record.specs.declared.record.Record.{Record}
use Rattle.mrp_record.specs.Entries.{contents, is_ended}
use Rattle.mrp_book.specs.Figures as book
use Rattle.mrp_protocol.specs.State.{State}
use Rattle.mrp_record.specs.Cursor.{Goods}
use Rattle.mrp_record.specs.Shows.{ShowsSent}
use Rattle.mrp_readiness.specs.Counts.{Awaited, AreCounts, open_blocks}
use Rattle.mrp_protocol.proofs.Seeing.{pairs_are_at}
use Rattle.mrp_protocol.specs.Goods.{goods_by, goods_of, schedule_goods, IsSendable}
use Rattle.mrp_protocol.specs.LocalPlans.{amount_at, asked_within, booked_on, is_of_kind, lanes_in, local_gross, local_incoming, terms_in}
use Rattle.mrp_protocol.specs.LocalPlans.{local_plan, local_row, pieces_in, AwaitsNothing, IsLocal, IsPlannedLocally}
use Rattle.mrp_agent.specs.Shows.{ShowsHistory, OutShows, awaited, awaited_on, form_of, joins_of, up_to_last}
use Rattle.mrp_agent.specs.State.{AgentState, book_at, incoming_at, out_at, outgoing_at, pair_place, plans_of, no_incoming, no_outgoing}
use Rattle.mrp_agent.proofs.Owning.{own_of_item}
use Rattle.mrp_agent.specs.InNetwork.{ShowsAgent}
use Rattle.mrp_agent.specs.OwnPart.{AgreeAt}
use Rattle.mrp_agent.proofs.Owned.{incoming_are_in, outgoing_are_out}

-- ---- maps and joined lists, element by element

map_same : {X Y : Type 0} (f g : X → Y) (xs : List X) → ((x : X) → f x ≡ g x) → map f xs ≡ map g xs
map_same f g [] same = refl
map_same {X} {Y} f g (x ∷ xs) same = ap (λ (y : Y). y ∷ map f xs) (same x) ∙ ap (λ (ys : List Y). g x ∷ ys) (map_same f g xs same)

flat_map_same : {X Y : Type 0} (f g : X → List Y) (xs : List X) → All (λ x. f x ≡ g x) xs → flat_map f xs ≡ flat_map g xs
flat_map_same f g [] same = refl
flat_map_same {X} {Y} f g (x ∷ xs) same =
    ap (λ (ys : List Y). ys ++ flat_map f xs) (All-head (λ x. f x ≡ g x) x xs same)
    ∙ ap (λ (ys : List Y). g x ++ ys) (flat_map_same f g xs (All-tail (λ x. f x ≡ g x) x xs same))

-- ---- states that agree on what a plant sees

record AgreeOn (V : PlantRows) (s t : State) : Type 0 where
  outs : All (λ lane. s.sent lane.number.0 ≡ t.sent lane.number.0) V.outgoing
  ins : All (λ lane. s.taken lane.number.0 ≡ t.taken lane.number.0) V.incoming
  pairs : All (λ p. s.planned p.number.0 ≡ t.planned p.number.0) V.pairs

agree_on : (N : Table) (p : ℕ) (s t : State) → AgreeAt N p s t → AgreeOn (plant_rows N p) s t
agree_on N p s t agree = record {
  outs = λ k d within. agree.sent (get_or (plant_rows N p).outgoing k d).number.0 (outgoing_are_out N p k d within);
  ins = λ k d within. agree.taken (get_or (plant_rows N p).incoming k d).number.0 (incoming_are_in N p k d within);
  pairs = λ k d within. agree.planned (get_or (plant_rows N p).pairs k d).number.0 (pairs_are_at N p k d within);
}

-- ---- what has come

abbrev block_in : PlantRows → List Record → IncomingItem → Awaited
block_in V records i = record { pair = pair_place V i.pair.0; ended = is_ended i.item.0 (contents records) }

abbrev goods_on : LaneKind → PlantRows → (ℕ → List Record) → (ℕ → PlanRows) → ℕ → List view.OutgoingLoad → ℕ → Goods
goods_on kind V taken plans l items place = goods_by kind V taken plans l (view.load_at items place)

abbrev schedule_goods_on : PlantRows → (ℕ → PlanRows) → List view.OutgoingLoad → List Record → ℕ → Goods
schedule_goods_on V plans items records place = schedule_goods V records plans (view.load_at items place)

goods_same : (kind : LaneKind) (V : PlantRows) (taken others : ℕ → List Record) (plans : ℕ → PlanRows) (l : ℕ) (items : List view.OutgoingLoad)
    → (kind ≡ Schedule → taken (l - 1) ≡ others (l - 1)) → goods_on kind V taken plans l items ≡ goods_on kind V others plans l items
goods_same Despatch V taken others plans l items same = refl
goods_same Schedule V taken others plans l items same = ap (schedule_goods_on V plans items) (same refl)

module _ (A : AgentState) (enough : IsView A.view) (s t : State) (same : AgreeOn A.view s t) where
  own_same : (x : PairNo) → IsOwnPair A.view x → s.planned x.0 ≡ t.planned x.0
  own_same x (p, there, is) =
      subst (λ (n : PairNo). s.planned n.0 ≡ t.planned n.0) is
      (All-contains (λ (q : PlantPair). s.planned q.number.0 ≡ t.planned q.number.0) A.view.pairs p same.pairs there)

  booked_same : (kind : LaneKind) (item : ItemNo) (u : ℕ) → booked_on kind A.view s.taken item u ≡ booked_on kind A.view t.taken item u
  booked_same kind item u =
      let f : IncomingLane → ℕ = λ lane. pieces_in item.0 u (contents (s.taken lane.number.0)) in
      let g : IncomingLane → ℕ = λ lane. pieces_in item.0 u (contents (t.taken lane.number.0)) in
      sum_by-same f g (lanes_in kind A.view)
      (All-filter (λ (lane : IncomingLane). is_of_kind kind lane.kind) (λ (lane : IncomingLane). f lane ≡ g lane) A.view.incoming
      (λ k d within. ap (λ (z : List Record). pieces_in item.0 u (contents z)) (same.ins k d within)))

  awaited_same : awaited A.view s.taken ≡ awaited A.view t.taken
  awaited_same =
      flat_map_same (awaited_on A.view s.taken) (awaited_on A.view t.taken) A.view.incoming
      (λ k d within. ap (λ (z : List Record). map (block_in A.view z) (get_or A.view.incoming k d).items) (same.ins k d within))

  -- ---- plans

  incoming_same : (p : PlantPair) → local_row A.view (local_incoming A.view s.taken p) ≡ local_row A.view (local_incoming A.view t.taken p)
  incoming_same p =
      map_same (local_incoming A.view s.taken p) (local_incoming A.view t.taken p) (range_with_len 0 A.view.horizon)
      (λ u. ap (λ (n : ℕ). amount_at A.view A.view.receipts p.number u + n) (booked_same Despatch p.item u))

  gross_same : (plans : ℕ → PlanRows) (p : PlantPair) → local_row A.view (local_gross A.view s.taken plans p)
      ≡ local_row A.view (local_gross A.view t.taken plans p)
  gross_same plans p =
      map_same (local_gross A.view s.taken plans p) (local_gross A.view t.taken plans p) (range_with_len 0 A.view.horizon)
      (λ u. ap (λ (n : ℕ). amount_at A.view A.view.demands p.number u + asked_within A.view plans p.number u + n) (booked_same Schedule p.item u))

  plan_same : (plans : ℕ → PlanRows) (p : PlantPair) → local_plan A.view s.taken plans p ≡ local_plan A.view t.taken plans p
  plan_same plans p =
      ap (λ (row : List ℕ). one (data_of_terms (terms_in A.view p) row (local_row A.view (local_gross A.view s.taken plans p)))) (incoming_same p)
      ∙ ap (λ (row : List ℕ). one (data_of_terms (terms_in A.view p) (local_row A.view (local_incoming A.view t.taken p)) row)) (gross_same plans p)

  awaits_same : (p : PlantPair) → AwaitsNothing A.view s.taken s.planned p → AwaitsNothing A.view t.taken t.planned p
  awaits_same p ready = record {
    parents = λ k d within is. sym (own_same (get_or A.view.edges k d).parent (enough.edges k d within).parent) ∙ ready.parents k d within is;
    brought = λ k d within carries.
        subst (λ (z : List Record). is_ended p.item.0 (contents z) ≡ true) (same.ins k d within) (ready.brought k d within carries);
  }

  local_same : (plans : ℕ → PlanRows) → IsLocal A.view s.taken s.planned plans → IsLocal A.view t.taken t.planned plans
  local_same plans local = λ k d within done.
      let p : PlantPair = get_or A.view.pairs k d in
      let before : IsPlannedLocally A.view s.taken s.planned plans p = local k d within (same.pairs k d within ∙ done) in
      record { ready = awaits_same p before.ready; plan = before.plan ∙ plan_same plans p }

  -- ---- lanes that go out

  taken_before : (k : ℕ) → k < length A.view.outgoing → (outgoing_at A.view k).kind ≡ Schedule
      → s.taken ((outgoing_at A.view k).number.0 - 1) ≡ t.taken ((outgoing_at A.view k).number.0 - 1)
  taken_before k within kind =
      All-contains (λ (lane : IncomingLane). s.taken lane.number.0 ≡ t.taken lane.number.0) A.view.incoming (lane_before (outgoing_at A.view k)) same.ins
      (enough.schedules k no_outgoing within kind).before

  abbrev customer_at : ℕ → ℕ → PairNo
  customer_at k j = (view.call_of (view.load_at (outgoing_at A.view k).items j)).customer

  customer_same : (k j : ℕ) → k < length A.view.outgoing → (outgoing_at A.view k).kind ≡ Schedule → j < length (outgoing_at A.view k).items
      → s.planned (customer_at k j).0 ≡ t.planned (customer_at k j).0
  customer_same k j within kind inside =
      let i : view.OutgoingLoad = view.load_at (outgoing_at A.view k).items j in
      let called = (enough.schedules k no_outgoing within kind).calls j view.no_load inside in
      own_same (customer_at k j) (own_of_item A.view (customer_at k j) i.item called.own)

  sendable_there : (k j : ℕ) → k < length A.view.outgoing → IsSendable s.planned (outgoing_at A.view k) j → IsSendable t.planned (outgoing_at A.view k) j
  sendable_there k j within sendable = record {
    within = sendable.within;
    decided = λ kind. sym (customer_same k j within kind sendable.within) ∙ sendable.decided kind;
  }

  sendable_back : (k j : ℕ) → k < length A.view.outgoing → IsSendable t.planned (outgoing_at A.view k) j → IsSendable s.planned (outgoing_at A.view k) j
  sendable_back k j within sendable = record {
    within = sendable.within;
    decided = λ kind. customer_same k j within kind sendable.within ∙ sendable.decided kind;
  }

  out_same : (k : ℕ) → k < length A.view.outgoing → OutShows A s.sent s.taken s.planned k → OutShows A t.sent t.taken t.planned k
  out_same k within out =
      let lane : OutgoingLane = outgoing_at A.view k in
      let goods = goods_same lane.kind A.view s.taken t.taken (plans_of A) lane.number.0 lane.items (taken_before k within) in
      record {
        size = out.size;
        shows = subst (ShowsSent (goods_of A.view t.taken (plans_of A) lane) (out_at A k)) (same.outs k no_outgoing within)
            (subst (λ (g : ℕ → Goods). ShowsSent g (out_at A k) (s.sent lane.number.0)) goods out.shows);
        queued = λ j. (
          (λ there. sendable_there k j within ((out.queued j).0 there)),
          (λ sendable. (out.queued j).1 (sendable_back k j within sendable)),
        );
      }

  shows_same : ShowsHistory A s.sent s.taken s.planned → ShowsHistory A t.sent t.taken t.planned
  shows_same shown = record {
    books = λ k within.
        subst (book.BookShows (form_of A.view (incoming_at A.view k)) (book_at A k)) (same.ins k no_incoming within) (shown.books k within);
    waits = subst (λ (z : List Awaited). AreCounts A.progress.waits (joins_of A.view) A.progress.planned (open_blocks z)) awaited_same shown.waits;
    scheduled_receipts = λ p there u low.
        shown.scheduled_receipts p there u low ∙ ap (λ (n : ℕ). up_to_last (amount_at A.view A.view.receipts p.number u + n)) (booked_same Despatch p.item u);
    outside_demand = λ p there u low.
        shown.outside_demand p there u low ∙ ap (λ (n : ℕ). up_to_last (amount_at A.view A.view.demands p.number u + n)) (booked_same Schedule p.item u);
    planned_are = λ p there.
        sym (All-contains (λ (q : PlantPair). s.planned q.number.0 ≡ t.planned q.number.0) A.view.pairs p same.pairs there) ∙ shown.planned_are p there;
    local = local_same (plans_of A) shown.local;
    outs = λ k within. out_same k within (shown.outs k within);
  }

pub agent_stays : (N : Table) (p : ℕ) (s t : State) (A : AgentState) → ShowsAgent N p s A → AgreeAt N p s t → ShowsAgent N p t A
agent_stays N p s t A shown agree = record {
  view = shown.view;
  enough = shown.enough;
  history = shows_same A shown.enough s t (subst (λ (V : PlantRows). AgreeOn V s t) (sym shown.view) (agree_on N p s t agree)) shown.history;
}

-- the plans that an agent keeps are made from what it sees and has taken
pub agent_is_local : (N : Table) (p : ℕ) (s : State) (A : AgentState) → ShowsAgent N p s A → IsLocal (plant_rows N p) s.taken s.planned (plans_of A)
agent_is_local N p s A shown = subst (λ (V : PlantRows). IsLocal V s.taken s.planned (plans_of A)) shown.view shown.history.local
