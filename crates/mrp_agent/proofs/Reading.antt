-- The agent: what the calls that read it say of each history that it shows.
use Rattle.std.proofs.Common.{◌≡◌, ℕ, zero, suc, ◌<◌, ◌≤◌, ◌==◌, eqb, cond, not, ◌&&◌, Bool, true, false, Option, Some, None, option_map, List, [], ◌∷◌, ◌↔◌}
use Rattle.std.proofs.Common.{inl, inr, length, get_or, map, position, refl, sym, ap, ◌∙◌, subst, arith}
use Rattle.std.specs.Prelude.{IsSome, IsTrue, option_and_then}
use Rattle.std.specs.List.{Contains, count_by, slice_get, find, list_all}
use Rattle.std.proofs.lemmas.Bool.{cases_Bool, cases_lt, eq-eqb, eqb-true, false≢true, and_parts, and_from}
use Rattle.std.proofs.lemmas.List.{ext_get_or, get_or_default, get_or_past, get_or-map, length-map}
use Rattle.std.proofs.lemmas.List.Elements.{All-contains, Contains-get_or}
use Rattle.std.proofs.lemmas.List.Folds.{find_at}
use Rattle.std.proofs.lemmas.List.Sums.{AllPass-from_list_all, list_all-from_AllPass, get_or-le-sum_by, passes_at_first}
use Rattle.std.proofs.lemmas.Option.{slice_get-get_or, slice_get_past}
use Rattle.mrp_master_data.specs.declared.numbers.ItemNo.{ItemNo}
use Rattle.mrp_master_data.specs.declared.numbers.PairNo.{PairNo}
use Rattle.mrp_net.specs.declared.lane.LaneNo.{LaneNo}
use Rattle.mrp_plant_view.specs.declared.view.IncomingItem.{IncomingItem}
use Rattle.mrp_plant_view.specs.declared.view.IncomingLane.{IncomingLane}
use Rattle.mrp_plant_view.specs.declared.view.OutgoingLane.{OutgoingLane}
use Rattle.mrp_plant_view.specs.declared.view.PlantPair.{PlantPair}
use Rattle.mrp_plant_view.specs.Seen.{IsIncomingLane}
use Rattle.mrp_plant_view.specs.View.{PlantRows}
use Rattle.mrp_plant_view.proofs.Once.{count-map, count_none}
use Rattle.mrp_record.specs.declared.record.Record.{Record}
use Rattle.mrp_record.specs.Entries.{contents, cum, is_closed}
use Rattle.mrp_record.specs.Form.{FormItem, LaneForm, item_on}
use Rattle.mrp_book.specs.Figures as book
use Rattle.mrp_book.specs.Figures.{Figures}
use Rattle.mrp_record.specs.Cursor.{OutFigures}
use Rattle.mrp_record.proofs.Texts.{closed_is_shown}
use Rattle.mrp_readiness.specs.Progress.{is_planned, left_of}
use Rattle.mrp_protocol.specs.Goods.{goods_of}
use Rattle.mrp_agent.specs.State.{AgentState, incoming_at, outgoing_at, book_at, out_at, no_book, no_incoming, no_out, no_outgoing, no_plant_pair, pair_place}
use Rattle.mrp_agent.specs.State.{plans_of, incoming_place}
use Rattle.mrp_agent.specs.Shows.{ShowsHistory, BooksShow, book_item, form_of, is_done}
use Rattle.mrp_agent.specs.Kept.{Indexes, IsKept}
use Rattle.mrp_agent.specs.Reading.{HasDone, OwnIsPlanned, ReceivedFiguresAreCumulative, carried_by, incoming_of, received_over, unplanned_pairs}
use Rattle.mrp_agent.proofs.Looking.{place_at, place_found, place_is_only, place_known}

-- ---- figures received

-- an item that is found in the form is found among the lane's items
found_item : (n : ℕ) (items : List IncomingItem) → find (λ i. i.item == n) (map book.book_form_item (map book_item items))
    ≡ option_map (λ i. book.book_form_item (book_item i)) (find (λ i. i.item.0 == n) items)
found_item n [] = refl
found_item n (i ∷ items) =
    elim (cases_Bool (eqb i.item.0 n))
    as (λ _. find (λ (f : FormItem). eqb f.item n) (map book.book_form_item (map book_item (i ∷ items)))
    ≡ option_map (λ (i : IncomingItem). book.book_form_item (book_item i)) (find (λ (z : IncomingItem). eqb z.item.0 n) (i ∷ items))) [
      | inl here ↦ rw here refl
      | inr later ↦ rw later (found_item n items)
    ]

-- what is found passes
found_passes : {X : Type 0} (p : X → Bool) (xs : List X) (x : X) → find p xs ≡ Some x → p x ≡ true
found_passes p [] x e = absurd (cc e)
found_passes {X} p (y ∷ xs) x e =
    elim (cases_Bool (p y)) [
      | inl here ↦
          let some : Some y ≡ Some x = rw here at e in
          let same : y ≡ x = cc some in
          ap p (sym same) ∙ here
      | inr later ↦ let rest : find p xs ≡ Some x = rw later at e in found_passes p xs x rest
    ]

-- what passes alone is found
found_once : {X : Type 0} (p : X → Bool) (xs : List X) (x : X) → count_by p xs ≤ 1 → Contains xs x → p x ≡ true → find p xs ≡ Some x
found_once {X} p xs x few (k, within, is) passes =
    find_at p xs
    ∙ ap (slice_get xs) (place_is_only p xs k x few within (ap p is ∙ passes))
    ∙ slice_get-get_or xs k x within
    ∙ ap (λ (z : X). Some z) is

figure_twice : (records : List Record) (item : ItemNo) (o : Option IncomingItem) → ((i : IncomingItem) → o ≡ Some i → i.item.0 ≡ item.0)
    → option_map (λ (i : FormItem). cum i.opening i.item (contents records)) (option_map (λ i. book.book_form_item (book_item i)) o)
    ≡ option_map (λ i. cum i.opening item.0 (contents records)) o
figure_twice records item None same = refl
figure_twice records item (Some i) same = ap (λ (n : ℕ). Some (cum i.opening n (contents records))) (same i refl)

-- the lane at a place is the one that is found
lane_found : (V : PlantRows) (l : LaneNo) → incoming_place V l.0 < length V.incoming → incoming_of V l ≡ Some (incoming_at V (incoming_place V l.0))
lane_found V l within =
    find_at (λ (z : IncomingLane). eqb z.number.0 l.0) V.incoming ∙ slice_get-get_or V.incoming (incoming_place V l.0) no_incoming within

-- what its book says
pub figure_received : (A : AgentState) (taken : ℕ → List Record) (l : LaneNo) (item : ItemNo) (r : Option ℕ) → BooksShow A taken
    → incoming_place A.view l.0 < length A.view.incoming
    → ((F : LaneForm) (records : List Record) → book.BookShows F (book_at A (incoming_place A.view l.0)) records
    → r ≡ option_map (λ i. cum i.opening i.item (contents records)) (item_on F item.0))
    → r ≡ received_over A.view taken l item
figure_received A taken l item r books within said =
    let lane : IncomingLane = incoming_at A.view (incoming_place A.view l.0) in
    let p : IncomingItem → Bool = λ i. eqb i.item.0 item.0 in
    let number : lane.number.0 ≡ l.0 = eqb-true lane.number.0 l.0
    (found_passes (λ (z : IncomingLane). eqb z.number.0 l.0) A.view.incoming lane (lane_found A.view l within)) in
    let shows : book.BookShows (form_of A.view lane) (book_at A (incoming_place A.view l.0)) (taken l.0) =
    subst (λ (n : ℕ). book.BookShows (form_of A.view lane) (book_at A (incoming_place A.view l.0)) (taken n)) number (books (incoming_place A.view l.0) within)
    in
    said (form_of A.view lane) (taken l.0) shows
    ∙ ap (option_map (λ (i : FormItem). cum i.opening i.item (contents (taken l.0)))) (found_item item.0 lane.items)
    ∙ figure_twice (taken l.0) item (carried_by item lane) (λ i is. eqb-true i.item.0 item.0 (found_passes p lane.items i is))
    ∙ sym (ap (λ (o : Option IncomingLane). option_map (λ (i : IncomingItem). cum i.opening item.0 (contents (taken l.0)))
    (option_and_then (carried_by item) o)) (lane_found A.view l within))

-- no lane, no figure
none_received : (V : PlantRows) (taken : ℕ → List Record) (l : LaneNo) (item : ItemNo) → incoming_of V l ≡ None → None ≡ received_over V taken l item
none_received V taken l item none =
    sym (ap (λ (o : Option IncomingLane). option_map (λ (i : IncomingItem). cum i.opening item.0 (contents (taken l.0))) (option_and_then (carried_by item) o))
    none)

-- of an item of a lane that comes in
pub received_figures_are_cumulative : ReceivedFiguresAreCumulative
received_figures_are_cumulative V view taken lane there i carries =
    let is = All-contains (IsIncomingLane V) V.incoming lane view.incoming there in
    let found : incoming_of V lane.number ≡ Some lane =
    found_once (λ (z : IncomingLane). eqb z.number.0 lane.number.0) V.incoming lane (view.incoming_once lane.number.0) there
    (eq-eqb lane.number.0 lane.number.0 refl) in
    let carried : carried_by i.item lane ≡ Some i =
    found_once (λ (z : IncomingItem). eqb z.item.0 i.item.0) lane.items i (is.once i.item.0) carries (eq-eqb i.item.0 i.item.0 refl) in
    let figure : IncomingItem → ℕ = λ z. cum z.opening i.item.0 (contents (taken lane.number.0)) in
    ap (λ (o : Option IncomingLane). option_map figure (option_and_then (carried_by i.item) o)) found ∙ ap (option_map figure) carried

-- as it is read at a place, and past the lanes
pub figure_said : (A : AgentState) (taken : ℕ → List Record) (l : LaneNo) (item : ItemNo) (r : Option ℕ) (b : Figures) (k : ℕ) → BooksShow A taken
    → k ≡ incoming_place A.view l.0 → b ≡ book_at A (incoming_place A.view l.0) → k < length A.view.incoming
    → ((F : LaneForm) (records : List Record) → book.BookShows F b records → r ≡ option_map (λ i. cum i.opening i.item (contents records)) (item_on F item.0))
    → r ≡ received_over A.view taken l item
figure_said A taken l item r b k books at is within said =
    figure_received A taken l item r books (omega (arith, at, within))
    (λ F records shows. said F records (subst (λ (z : Figures). book.BookShows F z records) (sym is) shows))

pub none_said : (V : PlantRows) (taken : ℕ → List Record) (l : LaneNo) (item : ItemNo) → length V.incoming ≤ incoming_place V l.0
    → None ≡ received_over V taken l item
none_said V taken l item past =
    none_received V taken l item (find_at (λ (z : IncomingLane). eqb z.number.0 l.0) V.incoming ∙ slice_get_past V.incoming (incoming_place V l.0) past)

-- ---- done

only_true : (b : Bool) → cond (not b) 1 0 ≤ 0 → b ≡ true
only_true true e = refl
only_true false e = absurd (omega (arith, e))

not_true : (b : Bool) → b ≡ true → not b ≡ false
not_true b e = ap not e

-- what is kept of each lane is closed exactly where the lane is
lanes_closed : {Lane Kept : Type 0} (lanes : List Lane) (no_lane : Lane) (all_kept : List Kept) (nothing : Kept) (closes : Lane → Bool) (closed : Kept → Bool)
    → length all_kept ≡ length lanes → ((k : ℕ) → k < length lanes → closed (get_or all_kept k nothing) ≡ closes (get_or lanes k no_lane))
    → list_all closed all_kept ≡ true ↔ ((lane : Lane) → Contains lanes lane → closes lane ≡ true)
lanes_closed {Lane} {Kept} lanes no_lane all_kept nothing closes closed size each = (there, back)
  where
    there : list_all closed all_kept ≡ true → (lane : Lane) → Contains lanes lane → closes lane ≡ true
    there all lane (k, within, is) =
        let here : closed (get_or all_kept k nothing) ≡ true = AllPass-from_list_all closed all_kept all k nothing (omega (arith, within, size)) in
        let same : get_or lanes k no_lane ≡ lane = get_or_default lanes k no_lane lane within ∙ is in
        subst (λ (z : Lane). closes z ≡ true) same (sym (each k within) ∙ here)

    back : ((lane : Lane) → Contains lanes lane → closes lane ≡ true) → list_all closed all_kept ≡ true
    back all = list_all-from_AllPass closed all_kept (λ k d within.
        let inside : k < length lanes = omega (arith, within, size) in
        ap closed (get_or_default all_kept k d nothing within) ∙ each k inside ∙ all (get_or lanes k no_lane) (Contains-get_or lanes k no_lane inside))

module _ (A : AgentState) (I : Indexes) (kept : IsKept A I) (sent taken : ℕ → List Record) (planned : ℕ → Bool)
    (shows : ShowsHistory A sent taken planned) where
  -- the place of the pair at a place
  own_place : (k : ℕ) → k < length A.view.pairs → pair_place A.view (get_or A.view.pairs k no_plant_pair).number.0 ≡ k
  own_place k within =
      let p : PlantPair = get_or A.view.pairs k no_plant_pair in
      place_is_only (λ (q : PlantPair). eqb q.number.0 p.number.0) A.view.pairs k no_plant_pair (kept.view.numbers_once p.number.0) within
      (eq-eqb p.number.0 p.number.0 refl)

  all_planned : left_of A.progress.planned ≡ 0 → (p : PlantPair) → Contains A.view.pairs p → planned p.number.0 ≡ true
  all_planned none p there =
      let k : ℕ = pair_place A.view p.number.0 in
      let within : k < length A.view.pairs = place_found (λ (q : PlantPair). eqb q.number.0 p.number.0) A.view.pairs p there (eq-eqb p.number.0 p.number.0 refl)
      in
      let most = get_or-le-sum_by (λ (b : Bool). cond (not b) 1 0) A.progress.planned k false (omega (arith, within, kept.rooms.progress.planned)) in
      shows.planned_are p there ∙ only_true (is_planned A.progress.planned k) (omega (arith, most, none))

  none_left : ((p : PlantPair) → Contains A.view.pairs p → planned p.number.0 ≡ true) → left_of A.progress.planned ≡ 0
  none_left all = count_none (λ (b : Bool). not b) A.progress.planned (λ k d within.
      let inside : k < length A.view.pairs = omega (arith, within, kept.rooms.progress.planned) in
      let p : PlantPair = get_or A.view.pairs k no_plant_pair in
      let there : Contains A.view.pairs p = Contains-get_or A.view.pairs k no_plant_pair inside in
      let here : is_planned A.progress.planned k ≡ true = ap (is_planned A.progress.planned) (sym (own_place k inside)) ∙ sym (shows.planned_are p there)
      ∙ all p there in
      not_true (get_or A.progress.planned k d) (get_or_default A.progress.planned k d false within ∙ here))

  -- how many aren't planned
  pub left_unplanned : left_of A.progress.planned ≡ unplanned_pairs A.view planned
  left_unplanned =
      let of_pair : PlantPair → Bool = λ p. planned p.number.0 in
      let size : length A.progress.planned ≡ length (map of_pair A.view.pairs) = kept.rooms.progress.planned ∙ sym (length-map A.view.pairs of_pair) in
      ap left_of (ext_get_or false A.progress.planned (map of_pair A.view.pairs) size
      (λ k within.
      let inside : k < length A.view.pairs = omega (arith, within, kept.rooms.progress.planned) in
      let p : PlantPair = get_or A.view.pairs k no_plant_pair in
      ap (is_planned A.progress.planned) (sym (own_place k inside))
      ∙ sym (shows.planned_are p (Contains-get_or A.view.pairs k no_plant_pair inside))
      ∙ sym (get_or-map of_pair A.view.pairs k no_plant_pair false inside)))
      ∙ count-map (λ (b : Bool). not b) of_pair A.view.pairs

  -- the flag of a pair, wherever it is
  pub flag_exactly : (x : PairNo) → IsTrue (is_planned A.progress.planned (pair_place A.view x.0)) ↔ OwnIsPlanned A.view planned x
  flag_exactly x = (there, back)
    where
      same_flag : (p : PlantPair) → Contains A.view.pairs p → p.number ≡ x → planned x.0 ≡ is_planned A.progress.planned (pair_place A.view x.0)
      same_flag p in_pairs is = subst (λ (n : PairNo). planned n.0 ≡ is_planned A.progress.planned (pair_place A.view n.0)) is (shows.planned_are p in_pairs)

      there : IsTrue (is_planned A.progress.planned (pair_place A.view x.0)) → OwnIsPlanned A.view planned x
      there flag =
          elim (cases_lt (pair_place A.view x.0) (length A.view.pairs)) [
            | inl within ↦
                let p : PlantPair = get_or A.view.pairs (pair_place A.view x.0) no_plant_pair in
                let in_pairs : Contains A.view.pairs p = Contains-get_or A.view.pairs (pair_place A.view x.0) no_plant_pair within in
                let found : p.number.0 ≡ x.0 = eqb-true p.number.0 x.0
                (passes_at_first (λ (q : PlantPair). eqb q.number.0 x.0) A.view.pairs no_plant_pair within) in
                let is : p.number ≡ x = ap (λ (n : ℕ). let z : PairNo = record { 0 = n } in z) found in
                ((p, in_pairs, is), same_flag p in_pairs is ∙ flag)
            | inr past ↦
                let none : is_planned A.progress.planned (pair_place A.view x.0) ≡ false =
                get_or_past A.progress.planned (pair_place A.view x.0) false (omega (arith, past, kept.rooms.progress.planned)) in
                absurd (false≢true (sym none ∙ flag))
          ]

      back : OwnIsPlanned A.view planned x → IsTrue (is_planned A.progress.planned (pair_place A.view x.0))
      back own = sym (same_flag own.0.0 own.0.1 own.0.2) ∙ own.1

  book_closed : (k : ℕ) → k < length A.view.incoming → (book_at A k).closed ≡ is_closed (contents (taken (incoming_at A.view k).number.0))
  book_closed k within = ap (λ (b : Figures). b.closed) (shows.books k within).is

  out_closed : (k : ℕ) → k < length A.view.outgoing → (out_at A k).closed ≡ is_closed (contents (sent (outgoing_at A.view k).number.0))
  out_closed k within =
      closed_is_shown (goods_of A.view taken (plans_of A) (outgoing_at A.view k)) (out_at A k) (sent (outgoing_at A.view k).number.0)
      (shows.outs k within).shows

  incoming_closed : list_all (λ b. b.closed) A.books ≡ true ↔ ((lane : IncomingLane) → Contains A.view.incoming lane
      → is_closed (contents (taken lane.number.0)) ≡ true)
  incoming_closed =
      lanes_closed A.view.incoming no_incoming A.books no_book (λ (lane : IncomingLane). is_closed (contents (taken lane.number.0)))
      (λ (b : Figures). b.closed) kept.rooms.books book_closed

  outgoing_closed : list_all (λ o. o.closed) A.outs ≡ true ↔ ((lane : OutgoingLane) → Contains A.view.outgoing lane
      → is_closed (contents (sent lane.number.0)) ≡ true)
  outgoing_closed =
      lanes_closed A.view.outgoing no_outgoing A.outs no_out (λ (lane : OutgoingLane). is_closed (contents (sent lane.number.0)))
      (λ (o : OutFigures). o.closed) kept.rooms.cursors.count out_closed

  pub done_shown : is_done A ≡ true → HasDone A.view sent taken planned
  done_shown done =
      let lanes = and_parts (eqb (left_of A.progress.planned) 0 && list_all (λ (b : Figures). b.closed) A.books)
      (list_all (λ (o : OutFigures). o.closed) A.outs) done in
      let parts = and_parts (eqb (left_of A.progress.planned) 0) (list_all (λ (b : Figures). b.closed) A.books) lanes.0 in
      record {
        pairs = all_planned (eqb-true (left_of A.progress.planned) 0 parts.0);
        incoming = incoming_closed.0 parts.1;
        outgoing = outgoing_closed.0 lanes.1;
      }

  pub shown_done : HasDone A.view sent taken planned → is_done A ≡ true
  shown_done h =
      and_from (eqb (left_of A.progress.planned) 0 && list_all (λ (b : Figures). b.closed) A.books) (list_all (λ (o : OutFigures). o.closed) A.outs)
      (and_from (eqb (left_of A.progress.planned) 0) (list_all (λ (b : Figures). b.closed) A.books) (eq-eqb (left_of A.progress.planned) 0 (none_left h.pairs))
      (incoming_closed.1 h.incoming))
      (outgoing_closed.1 h.outgoing)

  pub done_exactly : IsTrue (is_done A) ↔ HasDone A.view sent taken planned
  done_exactly = (done_shown, shown_done)

-- as it is answered
pub done_said : (A : AgentState) (I : Indexes) → IsKept A I → (b : Bool) → b ≡ is_done A
    → (sent taken : ℕ → List Record) (planned : ℕ → Bool) → ShowsHistory A sent taken planned → IsTrue b ↔ HasDone A.view sent taken planned
done_said A I kept b e sent taken planned shows =
    (λ t. done_shown A I kept sent taken planned shows (sym e ∙ t), λ h. e ∙ shown_done A I kept sent taken planned shows h)

-- ---- plans

pub left_said : (A : AgentState) (I : Indexes) → IsKept A I → (n : ℕ) → n ≡ left_of A.progress.planned
    → (sent taken : ℕ → List Record) (planned : ℕ → Bool) → ShowsHistory A sent taken planned → n ≡ unplanned_pairs A.view planned
left_said A I kept n e sent taken planned shows = e ∙ left_unplanned A I kept sent taken planned shows

pub planned_said : {X : Type 0} {A S : AgentState} {I : Indexes} (x : PairNo) (o : Option X) → A ≡ S → IsKept A I
    → IsSome o ↔ IsTrue (is_planned A.progress.planned (pair_place A.view x.0))
    → (sent taken : ℕ → List Record) (planned : ℕ → Bool) → ShowsHistory S sent taken planned → IsSome o ↔ OwnIsPlanned S.view planned x
planned_said {X} {A} {S} {I} x o same kept is = subst Says same said
  where
    Says : AgentState → Type 0
    Says a = (sent taken : ℕ → List Record) (planned : ℕ → Bool) → ShowsHistory a sent taken planned → IsSome o ↔ OwnIsPlanned a.view planned x

    said : Says A
    said sent taken planned shows =
        let flag = flag_exactly A I kept sent taken planned shows x in
        (λ some. flag.0 (is.0 some), λ own. is.1 (flag.1 own))

-- another plant's pair isn't planned
pub other_unplanned : (A : AgentState) (I : Indexes) → IsKept A I → (x : PairNo) → position (λ p. p.number.0 == x.0) A.view.pairs ≡ None
    → is_planned A.progress.planned (pair_place A.view x.0) ≡ false
other_unplanned A I kept x none =
    elim (cases_lt (pair_place A.view x.0) (length A.view.pairs)) [
      | inl within ↦
          let known : position (λ (p : PlantPair). eqb p.number.0 x.0) A.view.pairs ≡ Some (pair_place A.view x.0) =
          place_known (λ (p : PlantPair). eqb p.number.0 x.0) A.view.pairs within in
          let bad : None ≡ Some (pair_place A.view x.0) = sym none ∙ known in
          absurd (cc bad)
      | inr past ↦ beyond A.progress.planned (pair_place A.view x.0) (omega (arith, past, kept.rooms.progress.planned))
    ]
  where
    beyond : (flags : List Bool) (k : ℕ) → length flags ≤ k → get_or flags k false ≡ false
    beyond [] k past = refl
    beyond (f ∷ flags) zero past = absurd (omega (arith, past))
    beyond (f ∷ flags) (suc k) past = beyond flags k (omega (arith, past))

-- the place that was found
pub place_said : (A : AgentState) (x : PairNo) (o : Option ℕ) (k : ℕ) → o ≡ position (λ p. p.number.0 == x.0) A.view.pairs → o ≡ Some k
    → (pair_place A.view x.0 ≡ k) × (k < length A.view.pairs)
place_said A x o k e is = place_at (λ (p : PlantPair). eqb p.number.0 x.0) A.view.pairs k (sym e ∙ is)

-- what the flag says of the answer
pub none_there : (b : Bool) → b ≡ false → (false ≡ true → IsTrue b) × (IsTrue b → false ≡ true)
none_there b e = (λ bad. absurd (cc bad), λ t. sym e ∙ t)
