-- The agent: what it shows after a record was booked.
use Rattle.std.proofs.Common.{◌≡◌, ℕ, ◌+◌, ◌-◌, ◌*◌, ◌<◌, eqb, Bool, true, false, cond, Option, Some, None, IfSome, List, [], ◌∷◌, ◌++◌, inl, inr, length}
use Rattle.std.proofs.Common.{get_or, map, refl, sym, ap, ◌∙◌, subst, arith}
use Rattle.std.specs.List.{Contains, fold, sum_by, filter_map, list_any, range_with_len}
use Rattle.std.proofs.lemmas.Bool.{both_ways, cases_eq, cases_lt, eq-eqb, false_from_ne_true, le-ltb, lt-ltb}
use Rattle.std.proofs.lemmas.List.{get_or-map, get_or-set_same, get_or-set_other, length-map, length-set}
use Rattle.std.proofs.lemmas.List.Elements.{All-contains}
use Rattle.mrp_netting.specs.PlanRows.{PlanRows}
use Rattle.mrp_netting.specs.PlanningData.{planned as data_of_terms, one}
use Rattle.mrp_master_data.specs.declared.numbers.ItemNo.{ItemNo}
use Rattle.mrp_net.specs.declared.lane.LaneKind.{LaneKind}
use Rattle.mrp_net.specs.declared.lane.LaneKind.TheVariants.{Despatch, Schedule}
use Rattle.mrp_plant_view.specs.declared.view.IncomingItem.{IncomingItem}
use Rattle.mrp_plant_view.specs.declared.view.IncomingLane.{IncomingLane}
use Rattle.mrp_plant_view.specs.declared.view.OutgoingLane.{OutgoingLane}
use Rattle.mrp_plant_view.specs.declared.view.PlantPair.{PlantPair}
use Rattle.mrp_plant_view.specs.Loads.{OutgoingLoad, call_of, load_at, no_load}
use Rattle.mrp_plant_view.specs.Seen.{IsView, IsOwnOf}
use Rattle.mrp_plant_view.specs.View.{PlantRows}
use Rattle.mrp_record.specs.declared.record.Record.{Record}
use Rattle.mrp_record.specs.declared.record.Record.TheVariants.{Line, ItemEnd, Reset, Close}
use Rattle.mrp_record.specs.Entries.{Entry, closed_of, content, contents, entries_of, figure_after, is_end, is_ended, is_of}
use Rattle.mrp_record.specs.Blocks.{entry_delivery}
use Rattle.mrp_record.specs.Form.{EntryFits}
use Rattle.mrp_record.specs.Laws.{quantity_in}
use Rattle.mrp_book.specs.Figures as book
use Rattle.mrp_book.specs.Figures.{Figures}
use Rattle.mrp_record.specs.Cursor.{Goods}
use Rattle.mrp_record.proofs.Queues.{looks_at_queued}
use Rattle.mrp_readiness.specs.Counts.{open_blocks}
use Rattle.mrp_readiness.specs.Progress.{Progress, is_planned}
use Rattle.mrp_protocol.specs.Goods.{goods_by, goods_of, called_for, by_period_from, IsSendable}
use Rattle.mrp_protocol.specs.LocalPlans.{amount_at, asked_within, booked_on, is_of_kind, lanes_in, local_gross, local_incoming, local_plan, local_row, terms_in}
use Rattle.mrp_protocol.specs.LocalPlans.{AwaitsNothing, Carries, IsLocal, IsPlannedLocally}
use Rattle.mrp_agent.specs.State.{AgentState, book_at, incoming_at, outgoing_at, out_at, pair_place, plans_of, no_book, no_incoming}
use Rattle.mrp_agent.specs.After.{after_booked, added_for, receipts_after, demand_after, ended_place, items_of, place_among, with_line, BlockEnded, IsAwaited}
use Rattle.mrp_agent.specs.Kept.{HasRooms, HasTaken, Indexes, IsKept}
use Rattle.mrp_agent.specs.Shows.{awaited, form_of, joins_of, up_to_last, Awaits, BooksShow, HasScheduledReceipts, HasOutsideDemand, OutShows, ShowsHistory}
use Rattle.mrp_agent.specs.Sent.{with_taken}
use Rattle.mrp_agent.proofs.Arriving.{booked_after, brought, entries_stay, sum_each}
use Rattle.mrp_agent.proofs.Bringing.{line_comes, no_item, open_on, IsOpenOn}
use Rattle.mrp_agent.proofs.Ending.{falls, is_awaited}
use Rattle.mrp_agent.proofs.Looking.{only_place}
use Rattle.mrp_agent.proofs.Sent.{changed_there, changed_elsewhere, is_schedule}

-- ---- the same rooms

line_length : (items : List ItemNo) (periods : ℕ) (amounts : List ℕ) (r : Record) → length (with_line items periods amounts r) ≡ length amounts
line_length items periods amounts (Line number item period quantity cumulative) =
    elim (cases_lt period periods) as (λ _. length (with_line items periods amounts (Line number item period quantity cumulative)) ≡ length amounts) [
      | inl low ↦ rw (lt-ltb period periods low) (by (place_among items item))
      | inr high ↦ rw (le-ltb period periods high) refl
    ]
  where
    by : (o : Option ℕ) → length (added_for amounts periods period quantity o) ≡ length amounts
    by None = refl
    by (Some y) = length-set amounts (y * periods + period) _
line_length items periods amounts (ItemEnd number item lines cumulative) = refl
line_length items periods amounts (Reset number item closed) = refl
line_length items periods amounts (Close number) = refl

receipts_length : (kind : LaneKind) (V : PlantRows) (receipts : List ℕ) (r : Record) → length (receipts_after kind V receipts r) ≡ length receipts
receipts_length Despatch V receipts r = line_length (items_of V) V.horizon receipts r
receipts_length Schedule V receipts r = refl

demand_length : (kind : LaneKind) (V : PlantRows) (demand : List ℕ) (r : Record) → length (demand_after kind V demand r) ≡ length demand
demand_length Despatch V demand r = refl
demand_length Schedule V demand r = line_length (items_of V) V.horizon demand r

-- ---- a planned pair gets no records any more

row_same : (V : PlantRows) (f g : ℕ → ℕ) → ((t : ℕ) → f t ≡ g t) → local_row V f ≡ local_row V g
row_same V f g same = each (range_with_len 0 V.horizon)
  where
    each : (ts : List ℕ) → map f ts ≡ map g ts
    each [] = refl
    each (t ∷ ts) = ap (λ (n : ℕ). n ∷ map f ts) (same t) ∙ ap (λ (z : List ℕ). g t ∷ z) (each ts)

module _ (V : PlantRows) (taken : ℕ → List Record) (planned : ℕ → Bool) (k : ℕ) (within : k < length V.incoming) (r : Record)
    (fits : EntryFits (form_of V (incoming_at V k)) (contents (taken (incoming_at V k).number.0)) (content r)) (p : PlantPair)
    (ready : AwaitsNothing V taken planned p) where
  abbrev Later : ℕ → List Record
  Later = with_taken V taken k r

  gets_none : is_of p.item.0 (content r) ≡ false
  gets_none = false_from_ne_true (is_of p.item.0 (content r)) (λ own.
      let lane : IncomingLane = incoming_at V k in
      let o : IsOpenOn lane (contents (taken lane.number.0)) p.item.0 = open_on V lane (contents (taken lane.number.0)) (content r) p.item.0 fits own in
      let there : get_or (map (λ i. i.item) lane.items) o.place p.item ≡ p.item =
      get_or-map (λ (i : IncomingItem). i.item) lane.items o.place no_item p.item o.within ∙ ap (λ (n : ℕ). record { 0 = n }) o.is in
      let carries : Carries lane p.item = (o.place, omega (arith, o.within, length-map lane.items (λ (i : IncomingItem). i.item)), there) in
      both_ways (is_ended p.item.0 (contents (taken lane.number.0))) o.unended (ready.brought k no_incoming within carries))

  same_entries : (n : ℕ) → entries_of p.item.0 (contents (Later n)) ≡ entries_of p.item.0 (contents (taken n))
  same_entries n =
      let l : ℕ = (incoming_at V k).number.0 in
      elim (cases_eq n l) as (λ _. entries_of p.item.0 (contents (Later n)) ≡ entries_of p.item.0 (contents (taken n))) [
        | inl e ↦
            subst (λ (m : ℕ). entries_of p.item.0 (contents (Later m)) ≡ entries_of p.item.0 (contents (taken m))) (sym e)
            (ap (λ (z : List Record). entries_of p.item.0 (contents z)) (changed_there taken l (taken l ++ r ∷ []))
            ∙ entries_stay p.item.0 (taken l) r gets_none)
        | inr other ↦ ap (λ (z : List Record). entries_of p.item.0 (contents z)) (changed_elsewhere taken l (taken l ++ r ∷ []) n other)
      ]

  booked_same : (kind : LaneKind) (t : ℕ) → booked_on kind V Later p.item t ≡ booked_on kind V taken p.item t
  booked_same kind t =
      let pieces : (ℕ → List Record) → IncomingLane → ℕ = λ lists lane. quantity_in t
      (filter_map entry_delivery (entries_of p.item.0 (contents (lists lane.number.0)))) in
      sum_each (pieces Later) (pieces taken) (lanes_in kind V) (λ lane. ap (λ (z : List Entry). quantity_in t (filter_map entry_delivery z))
      (same_entries lane.number.0))

  still_ready : AwaitsNothing V Later planned p
  still_ready = record {
    parents = ready.parents;
    brought = λ i d inside carries. ap (list_any is_end) (same_entries (get_or V.incoming i d).number.0)
        ∙ ready.brought i d inside carries;
  }

  plan_same : (plans : ℕ → PlanRows) → local_plan V Later plans p ≡ local_plan V taken plans p
  plan_same plans =
      let incoming : local_row V (local_incoming V Later p) ≡ local_row V (local_incoming V taken p) =
      row_same V (local_incoming V Later p) (local_incoming V taken p) (λ t. ap (λ (n : ℕ). amount_at V V.receipts p.number t + n) (booked_same Despatch t)) in
      let gross : local_row V (local_gross V Later plans p) ≡ local_row V (local_gross V taken plans p) =
      row_same V (local_gross V Later plans p) (local_gross V taken plans p)
      (λ t. ap (λ (n : ℕ). amount_at V V.demands p.number t + asked_within V plans p.number t + n) (booked_same Schedule t)) in
      ap (λ (row : List ℕ). one (data_of_terms (terms_in V p) row (local_row V (local_gross V Later plans p)))) incoming
      ∙ ap (λ (row : List ℕ). one (data_of_terms (terms_in V p) (local_row V (local_incoming V taken p)) row)) gross

-- ---- what is shown

module _ (A : AgentState) (view : IsView A.view) (rooms : HasRooms A) (k : ℕ) (within : k < length A.view.incoming) (r : Record) (figures : Figures)
    (progress : Progress)
    (booked : (records : List Record) → book.BookShows (form_of A.view (incoming_at A.view k)) (book_at A k) records
    → book.BookShows (form_of A.view (incoming_at A.view k)) figures (records ++ r ∷ [])) where
  abbrev New : AgentState
  New = after_booked A k r figures progress

  abbrev Lane : IncomingLane
  Lane = incoming_at A.view k

  module _ (taken : ℕ → List Record) (shows : BooksShow A taken) where
    abbrev Then : ℕ → List Record
    Then = with_taken A.view taken k r

    -- the record goes on with what was taken
    pub fits : EntryFits (form_of A.view Lane) (contents (taken Lane.number.0)) (content r)
    fits = ((booked (taken Lane.number.0) (shows k within)).in_form (taken Lane.number.0) [] r refl).fits

    lanes_apart : (i : ℕ) → i < length A.view.incoming → (i ≡ k → ⊥) → (incoming_at A.view i).number.0 ≡ Lane.number.0 → ⊥
    lanes_apart i inside apart same =
        let l : ℕ = Lane.number.0 in
        apart (only_place (λ (z : IncomingLane). eqb z.number.0 l) A.view.incoming i k no_incoming (view.incoming_once l) inside within
        (eq-eqb (incoming_at A.view i).number.0 l same) (eq-eqb l l refl))

    book_there : book.BookShows (form_of A.view Lane) (book_at New k) (Then Lane.number.0)
    book_there =
        let is : book_at New k ≡ figures = get_or-set_same A.books k figures no_book (omega (arith, within, rooms.books)) in
        let l : ℕ = Lane.number.0 in
        subst (λ (z : List Record). book.BookShows (form_of A.view Lane) (book_at New k) z) (sym (changed_there taken l (taken l ++ r ∷ [])))
        (subst (λ (z : Figures). book.BookShows (form_of A.view Lane) z (taken l ++ r ∷ [])) (sym is) (booked (taken l) (shows k within)))

    book_elsewhere : (i : ℕ) → i < length A.view.incoming → (i ≡ k → ⊥)
        → book.BookShows (form_of A.view (incoming_at A.view i)) (book_at New i) (Then (incoming_at A.view i).number.0)
    book_elsewhere i inside other =
        let is : book_at New i ≡ book_at A i = get_or-set_other A.books k i figures no_book other in
        let l : ℕ = Lane.number.0 in
        let n : ℕ = (incoming_at A.view i).number.0 in
        subst (λ (z : List Record). book.BookShows (form_of A.view (incoming_at A.view i)) (book_at New i) z)
        (sym (changed_elsewhere taken l (taken l ++ r ∷ []) n (lanes_apart i inside other)))
        (subst (λ (z : Figures). book.BookShows (form_of A.view (incoming_at A.view i)) z (taken n)) (sym is) (shows i inside))

    pub books_show : BooksShow New Then
    books_show i inside =
        elim (cases_eq i k) as (λ _. book.BookShows (form_of A.view (incoming_at A.view i)) (book_at New i) (Then (incoming_at A.view i).number.0)) [
          | inl e ↦ subst (λ (z : ℕ). book.BookShows (form_of A.view (incoming_at A.view z)) (book_at New z) (Then (incoming_at A.view z).number.0))
              (sym e) book_there
          | inr other ↦ book_elsewhere i inside other
        ]

    -- a pair whose block ends awaits it, and then one fewer is awaited
    pub ends_awaited : Awaits A taken → IfSome (ended_place (items_of A.view) r) (IsAwaited A.progress)
    ends_awaited awaits = is_awaited A.view view taken k within r fits (joins_of A.view) A.progress rooms.progress.waits awaits

    pub still_awaits : BlockEnded (ended_place (items_of A.view) r) A.progress progress → Awaits A taken → Awaits New Then
    still_awaits ended awaits =
        ended.counts (joins_of A.view) (open_blocks (awaited A.view taken)) (open_blocks (awaited A.view Then)) (falls A.view view taken k within r fits) awaits

    -- pieces come in or are called for
    receipts_more : (p : PlantPair) → Contains A.view.pairs p → HasScheduledReceipts A taken p
        → (kind : LaneKind) → Lane.kind ≡ kind → (t : ℕ) → t < A.view.horizon
        → amount_at A.view (receipts_after kind A.view A.scheduled_receipts r) p.number t ≡ up_to_last (local_incoming A.view Then p t)
    receipts_more p there before Despatch kind t inside =
        let more = booked_after Despatch A.view taken k r p.item t view.incoming_once within in
        let on : cond (is_of_kind Despatch Lane.kind) (brought p.item.0 t (content r)) 0 ≡ brought p.item.0 t (content r) =
        ap (λ (z : LaneKind). cond (is_of_kind Despatch z) (brought p.item.0 t (content r)) 0) kind in
        line_comes A.view view A.scheduled_receipts rooms.scheduled_receipts p there t inside (local_incoming A.view taken p t) (before t inside) r
        ∙ ap up_to_last (omega (arith, more, on))
    receipts_more p there before Schedule kind t inside =
        let more = booked_after Despatch A.view taken k r p.item t view.incoming_once within in
        let off : cond (is_of_kind Despatch Lane.kind) (brought p.item.0 t (content r)) 0 ≡ 0 =
        ap (λ (z : LaneKind). cond (is_of_kind Despatch z) (brought p.item.0 t (content r)) 0) kind in
        before t inside ∙ ap up_to_last (omega (arith, more, off))

    demand_more : (p : PlantPair) → Contains A.view.pairs p → HasOutsideDemand A taken p → (kind : LaneKind) → Lane.kind ≡ kind → (t : ℕ) → t < A.view.horizon
        → amount_at A.view (demand_after kind A.view A.outside_demand r) p.number t
        ≡ up_to_last (amount_at A.view A.view.demands p.number t + booked_on Schedule A.view Then p.item t)
    demand_more p there before Despatch kind t inside =
        let more = booked_after Schedule A.view taken k r p.item t view.incoming_once within in
        let off : cond (is_of_kind Schedule Lane.kind) (brought p.item.0 t (content r)) 0 ≡ 0 =
        ap (λ (z : LaneKind). cond (is_of_kind Schedule z) (brought p.item.0 t (content r)) 0) kind in
        before t inside ∙ ap up_to_last (omega (arith, more, off))
    demand_more p there before Schedule kind t inside =
        let more = booked_after Schedule A.view taken k r p.item t view.incoming_once within in
        let on : cond (is_of_kind Schedule Lane.kind) (brought p.item.0 t (content r)) 0 ≡ brought p.item.0 t (content r) =
        ap (λ (z : LaneKind). cond (is_of_kind Schedule z) (brought p.item.0 t (content r)) 0) kind in
        line_comes A.view view A.outside_demand rooms.outside_demand p there t inside
        (amount_at A.view A.view.demands p.number t + booked_on Schedule A.view taken p.item t)
        (before t inside) r
        ∙ ap up_to_last (omega (arith, more, on))

    -- plans and goods stay
    local_stays : (planned : ℕ → Bool) (plans : ℕ → PlanRows) → IsLocal A.view taken planned plans → IsLocal A.view Then planned plans
    local_stays planned plans local i d inside is =
        let p : PlantPair = get_or A.view.pairs i d in
        let h : IsPlannedLocally A.view taken planned plans p = local i d inside is in
        record {
          ready = still_ready A.view taken planned k within r fits p h.ready;
          plan = h.plan ∙ sym (plan_same A.view taken planned k within r fits p h.ready plans);
        }

    goods_stay : (planned : ℕ → Bool) (plans : ℕ → PlanRows) → IsLocal A.view taken planned plans → (i : OutgoingLoad)
        → IsOwnOf A.view (call_of i).customer i.item → (kind : LaneKind) → (kind ≡ Schedule → planned (call_of i).customer.0 ≡ true)
        → (l : ℕ) → goods_by kind A.view taken plans l i ≡ goods_by kind A.view Then plans l i
    goods_stay planned plans local i own Despatch decided l = refl
    goods_stay planned plans local i (p, there, number, its) Schedule decided l =
        let is : planned p.number.0 ≡ true = ap (λ x. planned x.0) number ∙ decided refl in
        let h : IsPlannedLocally A.view taken planned plans p = All-contains (λ (q : PlantPair). planned q.number.0 ≡ true
        → IsPlannedLocally A.view taken planned plans q) A.view.pairs p local there is in
        let same : entries_of i.item.0 (contents (Then (l - 1))) ≡ entries_of i.item.0 (contents (taken (l - 1))) =
        subst (λ (item : ItemNo). entries_of item.0 (contents (Then (l - 1))) ≡ entries_of item.0 (contents (taken (l - 1)))) its
        (same_entries A.view taken planned k within r fits p h.ready (l - 1)) in
        let G : List Entry → Goods = λ z. record {
          item = i.item.0;
          opening = fold figure_after i.figure z + sum_by closed_of z;
          reset = i.reset;
          from = by_period_from (called_for plans i) A.view.horizon;
        } in
        ap G (sym same)

    -- the cursors look at the goods of planned customers alone
    outs_stay : (sent : ℕ → List Record) (planned : ℕ → Bool) → IsLocal A.view taken planned (plans_of A) → (i : ℕ) → i < length A.view.outgoing
        → OutShows A sent taken planned i → OutShows New sent Then planned i
    outs_stay sent planned local i inside out =
        let lane : OutgoingLane = outgoing_at A.view i in
        let same : (j : ℕ) → Contains (out_at A i).queue j → goods_of A.view taken (plans_of A) lane j ≡ goods_of A.view Then (plans_of A) lane j = λ j queued.
        let may = (out.queued j).0 queued in
        by_kind j may lane.kind refl
        in
        record {
          size = out.size;
          shows = looks_at_queued (goods_of A.view taken (plans_of A) lane) (goods_of A.view Then (plans_of A) lane) (out_at A i)
              (sent lane.number.0) same out.shows;
          queued = out.queued;
        }
      where
        by_kind : (j : ℕ) → IsSendable planned (outgoing_at A.view i) j → (kind : LaneKind) → (outgoing_at A.view i).kind ≡ kind
            → goods_of A.view taken (plans_of A) (outgoing_at A.view i) j ≡ goods_of A.view Then (plans_of A) (outgoing_at A.view i) j
        by_kind j may Despatch kind =
            let lane : OutgoingLane = outgoing_at A.view i in
            ap (λ (z : LaneKind). goods_by z A.view taken (plans_of A) lane.number.0 (load_at lane.items j)) kind
            ∙ sym (ap (λ (z : LaneKind). goods_by z A.view Then (plans_of A) lane.number.0 (load_at lane.items j)) kind)
        by_kind j may Schedule kind =
            let lane : OutgoingLane = outgoing_at A.view i in
            let sched = is_schedule A view rooms i inside kind in
            ap (λ (z : LaneKind). goods_by z A.view taken (plans_of A) lane.number.0 (load_at lane.items j)) kind
            ∙ goods_stay planned (plans_of A) local (load_at lane.items j) (sched.calls j no_load may.within).own Schedule (λ _. may.decided kind) lane.number.0
            ∙ sym (ap (λ (z : LaneKind). goods_by z A.view Then (plans_of A) lane.number.0 (load_at lane.items j)) kind)

  -- the record is appended to what was taken, and nothing else has changed
  pub booked_shows : BlockEnded (ended_place (items_of A.view) r) A.progress progress → (sent taken : ℕ → List Record) (planned : ℕ → Bool)
      → ShowsHistory A sent taken planned
      → ShowsHistory New sent (with_taken A.view taken k r) planned
  booked_shows ended sent taken planned shows = record {
    books = books_show taken shows.books;
    waits = still_awaits taken shows.books ended shows.waits;
    scheduled_receipts = λ p there. receipts_more taken shows.books p there (shows.scheduled_receipts p there) Lane.kind refl;
    outside_demand = λ p there. demand_more taken shows.books p there (shows.outside_demand p there) Lane.kind refl;
    planned_are = λ p there. shows.planned_are p there ∙ ap (λ (z : List Bool). is_planned z (pair_place A.view p.number.0)) (sym ended.planned);
    local = local_stays taken shows.books planned (plans_of A) shows.local;
    outs = λ i inside. outs_stay taken shows.books sent planned shows.local i inside (shows.outs i inside);
  }

  -- ---- what is kept

  booked_rooms : BlockEnded (ended_place (items_of A.view) r) A.progress progress → HasRooms New
  booked_rooms ended = record {
    books = length-set A.books k figures ∙ rooms.books;
    scheduled_receipts = receipts_length Lane.kind A.view A.scheduled_receipts r ∙ rooms.scheduled_receipts;
    outside_demand = demand_length Lane.kind A.view A.outside_demand r ∙ rooms.outside_demand;
    plans = rooms.plans;
    progress = record {
      numbers = ended.numbers ∙ rooms.progress.numbers;
      waits = ended.size ∙ rooms.progress.waits;
      planned = ap (λ (z : List Bool). length z) ended.planned ∙ rooms.progress.planned;
    };
    cursors = rooms.cursors;
  }

  booked_taken : BlockEnded (ended_place (items_of A.view) r) A.progress progress → HasTaken A → HasTaken New
  booked_taken ended has =
      record { taken = with_taken A.view has.taken k r; books = books_show has.taken has.books; waits = still_awaits has.taken has.books ended has.waits }

  pub booked_kept : (I : Indexes) → IsKept A I → BlockEnded (ended_place (items_of A.view) r) A.progress progress → IsKept New I
  booked_kept I kept ended = record { view = view; indexes = kept.indexes; rooms = booked_rooms ended; taken = booked_taken ended kept.taken }
