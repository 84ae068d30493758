-- The agent: what it has left to send is what is left of its goods.
use Rattle.std.proofs.Common.{◌≡◌, ℕ, zero, suc, ◌+◌, ◌-◌, ◌<◌, ◌≤◌, ◌==◌, eqb, Bool, true, Option, Some, None, option_map, List, [], ◌∷◌, inl, inr, length}
use Rattle.std.proofs.Common.{get_or, map, drop, refl, sym, ap, ◌∙◌, subst, arith, add-one}
use Rattle.std.specs.List.{Contains, count_by, filter, find, position_or_len, range_with_len, slice_get}
use Rattle.std.proofs.lemmas.Bool.{cases_Bool, eq-eqb}
use Rattle.std.proofs.lemmas.List.{get_or_default, get_or-map, length-map, drop_all}
use Rattle.std.proofs.lemmas.List.Elements.{All-contains, Contains-get_or}
use Rattle.std.proofs.lemmas.List.Folds.{find_at}
use Rattle.std.proofs.lemmas.Option.{slice_get-get_or}
use Rattle.mrp_net.specs.declared.lane.LaneKind.{LaneKind}
use Rattle.mrp_net.specs.declared.lane.LaneKind.TheVariants.{Despatch, Schedule}
use Rattle.mrp_net.specs.declared.lane.Shipment.{Shipment}
use Rattle.mrp_plant_view.specs.declared.view.IncomingLane.{IncomingLane}
use Rattle.mrp_plant_view.specs.declared.view.OutgoingLane.{OutgoingLane}
use Rattle.mrp_plant_view.specs.Loads.{OutgoingLoad, call_of, load_at, no_load}
use Rattle.mrp_plant_view.specs.Seen.{IsView, IsOutgoingLane, IsScheduleLane, lane_before, despatched_item}
use Rattle.mrp_plant_view.proofs.Once.{count-map}
use Rattle.mrp_record.specs.declared.record.Record.{Record}
use Rattle.mrp_record.specs.Entries.{Delivery, contents, cum}
use Rattle.mrp_record.specs.Form.{FormItem, LaneForm, item_on}
use Rattle.mrp_protocol.specs.Loads.{delivery_of, delivery_in, has_pieces}
use Rattle.mrp_book.specs.declared.item.ItemFigure.{ItemFigure}
use Rattle.mrp_book.specs.Faults.{find_item}
use Rattle.mrp_book.specs.Figures as book
use Rattle.mrp_book.specs.Figures.{Figures}
use Rattle.mrp_book.proofs.Showing.{shown}
use Rattle.mrp_record.specs.Next.{IsWhatIsLeft, IsNextLine, IsRemainder}
use Rattle.mrp_record.proofs.Lists.{drop_there, none_there}
use Rattle.mrp_protocol.specs.Goods.{called_for, by_period_from, goods_of, goods_by}
use Rattle.mrp_agent.specs.State.{AgentState, incoming_at, incoming_place, outgoing_at, book_at, out_at, plans_of, no_incoming}
use Rattle.mrp_agent.specs.Sending.{booked_figure, figure_in, next_shipment, shipment_line, call_line, remainder, remainder_by, left_at}
use Rattle.mrp_agent.specs.Shows.{BooksShow, form_of, book_item}
use Rattle.mrp_agent.proofs.Looking.{place_is_only, place_found}

-- ---- lines

shipments_left : (shipments : List Shipment) (mark : ℕ) → IsNextLine (λ m. map delivery_of (drop m shipments)) mark (next_shipment shipments mark)
shipments_left shipments mark = by (slice_get shipments mark) refl
  where
    by : (o : Option Shipment) → slice_get shipments mark ≡ o → IsNextLine (λ m. map delivery_of (drop m shipments)) mark (option_map (shipment_line mark) o)
    by None e = ap (λ (z : List Shipment). map delivery_of z) (drop_all mark shipments (none_there shipments mark e))
    by (Some s) e =
        ap (λ (z : List Shipment). map delivery_of z) (drop_there shipments mark s e)
        ∙ ap (λ (n : ℕ). delivery_of s ∷ map delivery_of (drop n shipments)) (sym (add-one mark))

none_passes : {X : Type 0} (p : X → Bool) (xs : List X) → find p xs ≡ None → filter p xs ≡ []
none_passes p [] e = refl
none_passes p (x ∷ xs) e =
    elim (cases_Bool (p x)) as (λ _. filter p (x ∷ xs) ≡ []) [
      | inl here ↦ let bad : Some x ≡ None = rw here at e in absurd (cc bad)
      | inr later ↦ let rest : find p xs ≡ None = rw later at e in rw later (none_passes p xs rest)
    ]

abbrev calls_from : (ℕ → ℕ) → ℕ → ℕ → List Delivery
calls_from amount mark n = filter has_pieces (map (delivery_in amount) (range_with_len mark n))

first_passes : (amount : ℕ → ℕ) (n mark : ℕ) (line : Delivery) → find has_pieces (map (delivery_in amount) (range_with_len mark n)) ≡ Some line
    → calls_from amount mark n ≡ line ∷ calls_from amount (line.period + 1) (mark + n - (line.period + 1))
first_passes amount zero mark line e = absurd (cc e)
first_passes amount (suc n) mark line e =
    elim (cases_Bool (has_pieces (delivery_in amount mark))) as (λ _. calls_from amount mark (suc n)
    ≡ line ∷ calls_from amount (line.period + 1) (mark + suc n - (line.period + 1))) [
      | inl here ↦
          let is : Some (delivery_in amount mark) ≡ Some line = rw here at e in
          let same : delivery_in amount mark ≡ line = cc is in
          let count : n ≡ mark + suc n - (mark + 1) = omega arith in
          let first : calls_from amount mark (suc n) ≡ delivery_in amount mark ∷ calls_from amount (mark + 1) n = rw here refl in
          first
          ∙ ap (λ (z : ℕ). delivery_in amount mark ∷ calls_from amount (mark + 1) z) count
          ∙ ap (λ (z : Delivery). z ∷ calls_from amount (z.period + 1) (mark + suc n - (z.period + 1))) same
      | inr later ↦
          let rest : find has_pieces (map (delivery_in amount) (range_with_len (mark + 1) n)) ≡ Some line = rw later at e in
          let skip : calls_from amount mark (suc n) ≡ calls_from amount (mark + 1) n = rw later refl in
          let count : mark + 1 + n ≡ mark + suc n = omega arith in
          skip ∙ first_passes amount n (mark + 1) line rest ∙ ap (λ (z : ℕ). line ∷ calls_from amount (line.period + 1) (z - (line.period + 1))) count
    ]

calls_left : (amount : ℕ → ℕ) (horizon mark : ℕ) → IsNextLine (by_period_from amount horizon) mark
    (option_map call_line (find has_pieces (map (delivery_in amount) (range_with_len mark (horizon - mark)))))
calls_left amount horizon mark = by (find has_pieces (map (delivery_in amount) (range_with_len mark (horizon - mark)))) refl
  where
    by : (o : Option Delivery) → find has_pieces (map (delivery_in amount) (range_with_len mark (horizon - mark))) ≡ o
        → IsNextLine (by_period_from amount horizon) mark (option_map call_line o)
    by None e = none_passes has_pieces (map (delivery_in amount) (range_with_len mark (horizon - mark))) e
    by (Some line) e =
        let within : mark + (horizon - mark) ≡ horizon = some_within (horizon - mark) refl e in
        first_passes amount (horizon - mark) mark line e ∙ ap (λ (z : ℕ). line ∷ calls_from amount (line.period + 1) (z - (line.period + 1))) within
      where
        some_within : (n : ℕ) → horizon - mark ≡ n → find has_pieces (map (delivery_in amount) (range_with_len mark (horizon - mark))) ≡ Some line
            → mark + (horizon - mark) ≡ horizon
        some_within zero z f = let bad : find has_pieces (map (delivery_in amount) (range_with_len mark 0)) ≡ Some line =
            subst (λ (n : ℕ). find has_pieces (map (delivery_in amount) (range_with_len mark n)) ≡ Some line) z f in absurd (cc bad)
        some_within (suc n) z f = omega (arith, z)

-- ---- opening figures

figure_shown : (form : LaneForm) (records : List Record) (b : Figures) (item : ℕ) → book.BookShows form b records
    → option_map (λ g. g.figure + g.closed) (find_item b.items item) ≡ option_map (λ i. cum i.opening i.item (contents records)) (item_on form item)
figure_shown form records b item s = shown (λ (g : ItemFigure). g.figure + g.closed) form records b item (find_item b.items item) refl s

pub figure_read : (o : Option ItemFigure) (n : ℕ) → option_map (λ g. g.figure + g.closed) o ≡ Some n → booked_figure o ≡ n
figure_read None n e = absurd (cc e)
figure_read (Some g) n e = cc e

pub no_figure : (o : Option ItemFigure) → option_map (λ g. g.figure + g.closed) o ≡ None → booked_figure o ≡ 0
no_figure None e = refl
no_figure (Some g) e = absurd (cc e)

pub figure_some : (form : LaneForm) (records : List Record) (b : Figures) (item : ℕ) (o : Option ℕ) (n : ℕ) → book.BookShows form b records
    → o ≡ option_map (λ i. cum i.opening i.item (contents records)) (item_on form item) → o ≡ Some n → n ≡ figure_in b item
figure_some form records b item o n s e is = sym (figure_read (find_item b.items item) n (figure_shown form records b item s ∙ sym e ∙ is))

pub figure_none : (form : LaneForm) (records : List Record) (b : Figures) (item : ℕ) (o : Option ℕ) → book.BookShows form b records
    → o ≡ option_map (λ i. cum i.opening i.item (contents records)) (item_on form item) → o ≡ None → 0 ≡ figure_in b item
figure_none form records b item o s e is = sym (no_figure (find_item b.items item) (figure_shown form records b item s ∙ sym e ∙ is))

-- the form's item of a lane before a schedule lane
abbrev before_item : OutgoingLoad → FormItem
before_item load = record { item = load.item.0; opening = load.figure; reset = load.reset }

items_before : (items : List OutgoingLoad) → map book.book_form_item (map book_item (map despatched_item items)) ≡ map before_item items
items_before [] = refl
items_before (i ∷ items) = ap (λ (z : List FormItem). before_item i ∷ z) (items_before items)

item_found : (items : List OutgoingLoad) (j : ℕ) → ((item : ℕ) → count_by (λ i. i.item.0 == item) items ≤ 1) → j < length items
    → find (λ i. i.item == (load_at items j).item.0) (map before_item items) ≡ Some (before_item (load_at items j))
item_found items j once within =
    let item : ℕ = (load_at items j).item.0 in
    let p : FormItem → Bool = λ i. eqb i.item item in
    let d : FormItem = before_item no_load in
    let here : get_or (map before_item items) j d ≡ before_item (load_at items j) = get_or-map before_item items j no_load d within in
    let inside : j < length (map before_item items) = omega (arith, length-map items before_item) in
    let few : count_by p (map before_item items) ≤ 1 = subst (λ (n : ℕ). n ≤ 1) (sym (count-map p before_item items)) (once item) in
    let place : position_or_len p (map before_item items) ≡ j = place_is_only p (map before_item items) j d few inside (ap p here ∙ eq-eqb item item refl) in
    find_at p (map before_item items)
    ∙ ap (slice_get (map before_item items)) place
    ∙ slice_get-get_or (map before_item items) j d inside
    ∙ ap (λ (i : FormItem). Some i) here

module _ (A : AgentState) (taken : ℕ → List Record) (view : IsView A.view) (books : BooksShow A taken) where
  -- the despatch lane before a schedule lane comes in
  pub place_before : (lane : OutgoingLane) → IsScheduleLane A.view lane
      → (incoming_place A.view (lane.number.0 - 1) < length A.view.incoming)
      × (incoming_at A.view (incoming_place A.view (lane.number.0 - 1)) ≡ lane_before lane)
  place_before lane sched =
      let l : ℕ = lane.number.0 - 1 in
      let before : IncomingLane = lane_before lane in
      let p : IncomingLane → Bool = λ z. eqb z.number.0 l in
      let passes : p before ≡ true = eq-eqb l l refl in
      let within = place_found p A.view.incoming before sched.before passes in
      by sched.before
    where
      by : (k : ℕ) × (k < length A.view.incoming) × (get_or A.view.incoming k (lane_before lane) ≡ lane_before lane)
          → (incoming_place A.view (lane.number.0 - 1) < length A.view.incoming)
          × (incoming_at A.view (incoming_place A.view (lane.number.0 - 1)) ≡ lane_before lane)
      by (k, low, is) =
          let l : ℕ = lane.number.0 - 1 in
          let p : IncomingLane → Bool = λ z. eqb z.number.0 l in
          let same : incoming_place A.view l ≡ k = place_is_only p A.view.incoming k (lane_before lane) (view.incoming_once l) low (ap p is ∙ eq-eqb l l refl)
          in (
            subst (λ (n : ℕ). n < length A.view.incoming) (sym same) low,
            ap (incoming_at A.view) same ∙ get_or_default A.view.incoming k no_incoming (lane_before lane) low ∙ is,
          )

  pub opening_is : (lane : OutgoingLane) → IsScheduleLane A.view lane → IsOutgoingLane A.view lane → (j : ℕ) → j < length lane.items
      → figure_in (book_at A (incoming_place A.view (lane.number.0 - 1))) (load_at lane.items j).item.0
      ≡ cum (load_at lane.items j).figure (load_at lane.items j).item.0 (contents (taken (lane.number.0 - 1)))
  opening_is lane sched out j within =
      let at = place_before lane sched in
      let k : ℕ = incoming_place A.view (lane.number.0 - 1) in
      let i : OutgoingLoad = load_at lane.items j in
      let shows : book.BookShows (form_of A.view (lane_before lane)) (book_at A k) (taken (lane.number.0 - 1)) =
      subst (λ (z : IncomingLane). book.BookShows (form_of A.view z) (book_at A k) (taken z.number.0)) at.1 (books k at.0) in
      let found : item_on (form_of A.view (lane_before lane)) i.item.0 ≡ Some (before_item i) =
      ap (λ (z : List FormItem). find (λ (f : FormItem). eqb f.item i.item.0) z) (items_before lane.items) ∙ item_found lane.items j out.once within in
      let read = figure_shown (form_of A.view (lane_before lane)) (taken (lane.number.0 - 1)) (book_at A k) i.item.0 shows in
      figure_read (find_item (book_at A k).items i.item.0) _
      (read ∙ ap (λ (o : Option FormItem). option_map (λ (f : FormItem). cum f.opening f.item (contents (taken (lane.number.0 - 1)))) o) found)

  -- ---- what is left of an item

  abbrev IsOf : LaneKind → OutgoingLane → ℕ → ℕ → Type 0
  IsOf kind lane mark j =
      IsRemainder (goods_by kind A.view taken (plans_of A) lane.number.0 (load_at lane.items j)) mark (remainder_by kind A lane (load_at lane.items j) mark)

  remains : (kind : LaneKind) (lane : OutgoingLane) (mark j : ℕ) → (kind ≡ Schedule → IsScheduleLane A.view lane) → IsOutgoingLane A.view lane
      → j < length lane.items
      → (kind ≡ Schedule → length (plans_of A (call_of (load_at lane.items j)).customer.0).release ≡ A.view.horizon) → IsOf kind lane mark j
  remains Despatch lane mark j sched out within periods =
      record { item = refl; opening = refl; reset = refl; line = shipments_left (load_at lane.items j).shipments mark }
  remains Schedule lane mark j sched out within periods =
      let i : OutgoingLoad = load_at lane.items j in
      let amount : ℕ → ℕ = called_for (plans_of A) i in
      record {
        item = refl;
        opening = opening_is lane (sched refl) out j within;
        reset = refl;
        line = subst (λ (n : ℕ). IsNextLine (by_period_from amount A.view.horizon) mark
            (option_map call_line (find has_pieces (map (delivery_in amount) (range_with_len mark (n - mark))))))
            (sym (periods refl)) (calls_left amount A.view.horizon mark);
      }

  pub left_is_left : (k : ℕ) → k < length A.view.outgoing → ((j : ℕ) → slice_get (out_at A k).queue (out_at A k).head ≡ Some j
      → j < length (outgoing_at A.view k).items)
      → ((j : ℕ) → j < length (outgoing_at A.view k).items → (outgoing_at A.view k).kind ≡ Schedule
      → length (plans_of A (call_of (load_at (outgoing_at A.view k).items j)).customer.0).release ≡ A.view.horizon)
      → IsWhatIsLeft (goods_of A.view taken (plans_of A) (outgoing_at A.view k)) (out_at A k) (left_at A k)
  left_is_left k within places periods = by (slice_get (out_at A k).queue (out_at A k).head) refl
    where
      by : (o : Option ℕ) → slice_get (out_at A k).queue (out_at A k).head ≡ o
          → IsWhatIsLeft (goods_of A.view taken (plans_of A) (outgoing_at A.view k)) (out_at A k)
          (option_map (remainder A (outgoing_at A.view k) (out_at A k).mark) o)
      by None e = e
      by (Some j) e =
          let lane : OutgoingLane = outgoing_at A.view k in
          let there : Contains A.view.outgoing lane = Contains-get_or A.view.outgoing k _ within in
          let out = All-contains (IsOutgoingLane A.view) A.view.outgoing lane view.outgoing there in
          let sched = All-contains (λ (z : OutgoingLane). z.kind ≡ Schedule → IsScheduleLane A.view z) A.view.outgoing lane view.schedules there in
          (j, e, remains lane.kind lane (out_at A k).mark j sched out (places j e) (periods j (places j e)))
