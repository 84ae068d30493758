-- The agent: what it knows of a record that it books.
use Rattle.std.proofs.Common.{◌≡◌, ℕ, suc, ◌+◌, ◌*◌, ◌<◌, ◌==◌, eqb, Bool, true, false, Option, Some, None, List, [], ◌∷◌, inl, inr, length, get_or, set, map}
use Rattle.std.proofs.Common.{position, refl, sym, ap, ◌∙◌, subst, arith}
use Rattle.std.specs.Prelude.{IsSomeAnd}
use Rattle.std.specs.List.{Contains, find, position_or_len}
use Rattle.std.proofs.lemmas.Bool.{cases_Bool, cases_eq, cases_lt, eq-eqb, eqb-true, ne_eqb, lt-ltb, le-ltb}
use Rattle.std.proofs.lemmas.List.{get_or-map, get_or-set_same, get_or-set_other, get_or_default, length-map}
use Rattle.std.proofs.lemmas.List.Sums.{passes_at_first}
use Rattle.std.proofs.lemmas.Nat.{mul-add-lt, same_from_place}
use Rattle.mrp_master_data.specs.declared.numbers.ItemNo.{ItemNo}
use Rattle.mrp_plant_view.specs.declared.view.IncomingItem.{IncomingItem}
use Rattle.mrp_plant_view.specs.declared.view.IncomingLane.{IncomingLane}
use Rattle.mrp_plant_view.specs.declared.view.PlantPair.{PlantPair}
use Rattle.mrp_plant_view.specs.Seen.{IsView}
use Rattle.mrp_plant_view.specs.View.{PlantRows}
use Rattle.mrp_record.specs.declared.record.Record.{Record}
use Rattle.mrp_record.specs.declared.record.Record.TheVariants.{Line, ItemEnd, Reset, Close}
use Rattle.mrp_record.specs.Entries.{Entry, LineOf, EndOf, ResetOf, Closing, content, is_of, is_ended}
use Rattle.mrp_record.specs.Form.{FormItem, EntryFits, GoesOn, item_on}
use Rattle.mrp_book.specs.Figures as book
use Rattle.mrp_protocol.specs.LocalPlans.{amount_at}
use Rattle.mrp_agent.specs.State.{pair_place, no_plant_pair}
use Rattle.mrp_agent.specs.After.{added_for, items_of, place_among, with_line}
use Rattle.mrp_agent.specs.Shows.{form_of, up_to_last, book_item}
use Rattle.mrp_agent.proofs.Arriving.{brought, line_brings, line_brings_later, other_brings_nothing, end_brings_nothing, reset_brings_nothing}
use Rattle.mrp_agent.proofs.Looking.{place_at, place_is_only, place_known}

-- ---- the place of a pair is the place of its item

place-map : {X Y : Type 0} (p : Y → Bool) (f : X → Y) (xs : List X) → position_or_len p (map f xs) ≡ position_or_len (λ x. p (f x)) xs
place-map p f [] = refl
place-map {X} p f (x ∷ xs) =
    elim (cases_Bool (p (f x))) as (λ _. position_or_len p (map f (x ∷ xs)) ≡ position_or_len (λ (y : X). p (f y)) (x ∷ xs)) [
      | inl here ↦ rw here refl
      | inr later ↦ rw later (ap (λ (n : ℕ). 1 + n) (place-map p f xs))
    ]

pub record IsPlaced (V : PlantRows) (p : PlantPair) : Type 0 where
  pub within : pair_place V p.number.0 < length V.pairs
  pub there : get_or V.pairs (pair_place V p.number.0) no_plant_pair ≡ p
  pub item : place_among (items_of V) p.item ≡ Some (pair_place V p.number.0)

pub placed : (V : PlantRows) → IsView V → (p : PlantPair) → Contains V.pairs p → IsPlaced V p
placed V view p (k, within, is) =
    let at : get_or V.pairs k no_plant_pair ≡ p = get_or_default V.pairs k no_plant_pair p within ∙ is in
    let number : pair_place V p.number.0 ≡ k =
    place_is_only (λ (q : PlantPair). eqb q.number.0 p.number.0) V.pairs k no_plant_pair (view.numbers_once p.number.0) within
    (eq-eqb (get_or V.pairs k no_plant_pair).number.0 p.number.0 (ap (λ (q : PlantPair). q.number.0) at)) in
    let item : position_or_len (λ (q : PlantPair). eqb q.item.0 p.item.0) V.pairs ≡ k =
    place_is_only (λ (q : PlantPair). eqb q.item.0 p.item.0) V.pairs k no_plant_pair (view.items_once p.item.0) within
    (eq-eqb (get_or V.pairs k no_plant_pair).item.0 p.item.0 (ap (λ (q : PlantPair). q.item.0) at)) in
    let found : position_or_len (λ (i : ItemNo). eqb i.0 p.item.0) (items_of V) ≡ k =
    place-map (λ (i : ItemNo). eqb i.0 p.item.0) (λ (q : PlantPair). q.item) V.pairs ∙ item in
    let inside = length-map V.pairs (λ (q : PlantPair). q.item) in
    record {
      within = omega (arith, number, within);
      there = ap (λ (n : ℕ). get_or V.pairs n no_plant_pair) number ∙ at;
      item = place_known (λ (i : ItemNo). eqb i.0 p.item.0) (items_of V) (omega (arith, found, within, inside)) ∙ ap (λ (n : ℕ). Some n) (found ∙ sym number);
    }

pub item_there : (V : PlantRows) → IsView V → (p : PlantPair) → Contains V.pairs p → (item : ItemNo) (y : ℕ) → place_among (items_of V) item ≡ Some y
    → pair_place V p.number.0 ≡ y → p.item.0 ≡ item.0
item_there V view p there item y e same =
    let at = place_at (λ (i : ItemNo). eqb i.0 item.0) (items_of V) y e in
    let n : ℕ = position_or_len (λ (i : ItemNo). eqb i.0 item.0) (items_of V) in
    let h = placed V view p there in
    let passes : eqb (get_or (items_of V) n item).0 item.0 ≡ true =
    passes_at_first (λ (i : ItemNo). eqb i.0 item.0) (items_of V) item (omega (arith, at.0, at.1)) in
    let read : get_or (items_of V) (pair_place V p.number.0) item ≡ (get_or V.pairs (pair_place V p.number.0) no_plant_pair).item =
    get_or-map (λ (q : PlantPair). q.item) V.pairs (pair_place V p.number.0) no_plant_pair item h.within in
    let is : (get_or (items_of V) n item).0 ≡ p.item.0 =
    ap (λ (m : ℕ). (get_or (items_of V) m item).0) (at.0 ∙ sym same) ∙ ap (λ (i : ItemNo). i.0) read ∙ ap (λ (q : PlantPair). q.item.0) h.there in
    sym is ∙ eqb-true (get_or (items_of V) n item).0 item.0 passes

-- ---- a line's pieces come at its item's pair and its period, and nowhere else

module _ (V : PlantRows) (view : IsView V) (amounts : List ℕ) (size : length amounts ≡ length V.pairs * V.horizon) (p : PlantPair) (there : Contains V.pairs p)
    (t : ℕ) (inside : t < V.horizon)
    (sum : ℕ) (now : amount_at V amounts p.number t ≡ up_to_last sum) where
  line_at : (number period quantity cumulative : ℕ) (item : ItemNo) → period < V.horizon → (o : Option ℕ) → place_among (items_of V) item ≡ o
      → amount_at V (added_for amounts V.horizon period quantity o) p.number t
      ≡ up_to_last (sum + brought p.item.0 t (LineOf item.0 period quantity cumulative))
  line_at number period quantity cumulative item within None e =
      let h = placed V view p there in
      let other : item.0 ≡ p.item.0 → ⊥ = λ same.
      let some : None ≡ Some (pair_place V p.number.0) = sym e ∙ ap (λ (n : ℕ). position (λ (i : ItemNo). eqb i.0 n) (items_of V)) same ∙ h.item in
      cc some
      in
      let nothing = other_brings_nothing p.item.0 t (LineOf item.0 period quantity cumulative) (ne_eqb item.0 p.item.0 other) in
      now ∙ ap up_to_last (omega (arith, nothing))
  line_at number period quantity cumulative item within (Some y) e =
      let h = placed V view p there in
      let y' : ℕ = pair_place V p.number.0 in
      let at : ℕ = y * V.horizon + period in
      let here : ℕ = y' * V.horizon + t in
      let v : ℕ = up_to_last (get_or amounts at 0 + quantity) in
      let G : Type 0 = get_or (set amounts at v) here 0 ≡ up_to_last (sum + brought p.item.0 t (LineOf item.0 period quantity cumulative)) in
      elim (cases_eq item.0 p.item.0) as (λ _. G) [
        | inl same ↦
            let is : y ≡ y' =
            let some : Some y ≡ Some y' = sym e ∙ ap (λ (n : ℕ). position (λ (i : ItemNo). eqb i.0 n) (items_of V)) same ∙ h.item in cc some in
            elim (cases_eq period t) as (λ _. G) [
              | inl on ↦
                  let place : at ≡ here = ap (λ (n : ℕ). n * V.horizon + period) is ∙ ap (λ (n : ℕ). y' * V.horizon + n) on in
                  let low : here < length amounts = omega (arith, mul-add-lt y' V.horizon t (length V.pairs) h.within inside, size) in
                  let brings = line_brings item.0 period quantity cumulative p.item.0 t same on in
                  let old : get_or amounts at 0 ≡ up_to_last sum = ap (λ (n : ℕ). get_or amounts n 0) place ∙ now in
                  let new : v ≡ up_to_last (sum + brought p.item.0 t (LineOf item.0 period quantity cumulative)) = omega (arith, old, brings) in
                  ap (λ (n : ℕ). get_or (set amounts n v) here 0) place ∙ get_or-set_same amounts here v 0 low ∙ new
              | inr off ↦
                  let apart : here ≡ at → ⊥ = λ e. off (sym (same_from_place y' t y period V.horizon inside within e).1) in
                  let nothing = line_brings_later item.0 period quantity cumulative p.item.0 t off in
                  get_or-set_other amounts at here v 0 apart ∙ now ∙ ap up_to_last (omega (arith, nothing))
            ]
        | inr other ↦
            let apart : here ≡ at → ⊥ = λ f. other (sym (item_there V view p there item y e (same_from_place y' t y period V.horizon inside within f).0)) in
            let nothing = other_brings_nothing p.item.0 t (LineOf item.0 period quantity cumulative) (ne_eqb item.0 p.item.0 other) in
            get_or-set_other amounts at here v 0 apart ∙ now ∙ ap up_to_last (omega (arith, nothing))
      ]

  pub line_comes : (r : Record) → amount_at V (with_line (items_of V) V.horizon amounts r) p.number t ≡ up_to_last (sum + brought p.item.0 t (content r))
  line_comes (Line number item period quantity cumulative) =
      elim (cases_lt period V.horizon) as (λ _. amount_at V (with_line (items_of V) V.horizon amounts (Line number item period quantity cumulative)) p.number t
      ≡ up_to_last (sum + brought p.item.0 t (LineOf item.0 period quantity cumulative))) [
        | inl low ↦ rw (lt-ltb period V.horizon low) (line_at number period quantity cumulative item low (place_among (items_of V) item) refl)
        | inr high ↦
            let nothing = line_brings_later item.0 period quantity cumulative p.item.0 t (λ e. omega arith) in
            rw (le-ltb period V.horizon high) (now ∙ ap up_to_last (omega (arith, nothing)))
      ]
  line_comes (ItemEnd number item lines cumulative) = now ∙ ap up_to_last (omega (arith, end_brings_nothing item.0 lines cumulative p.item.0 t))
  line_comes (Reset number item closed) = now ∙ ap up_to_last (omega (arith, reset_brings_nothing item.0 closed p.item.0 t))
  line_comes (Close number) = now ∙ ap up_to_last (omega (arith, other_brings_nothing p.item.0 t Closing refl))

-- ---- a record of an item goes on with a block that is open

abbrev pub no_item : IncomingItem
no_item = record { item = record { 0 = 0 }; pair = record { 0 = 0 }; opening = 0; reset = None }

pub record IsOpenOn (lane : IncomingLane) (before : List Entry) (item : ℕ) : Type 0 where
  pub place : ℕ
  pub within : place < length lane.items
  pub is : (get_or lane.items place no_item).item.0 ≡ item
  pub unended : is_ended item before ≡ false

record IsAmong (items : List IncomingItem) (n : ℕ) (i : FormItem) : Type 0 where
  place : ℕ
  within : place < length items
  is : (get_or items place no_item).item.0 ≡ n
  same : i.item ≡ n

found_among : (items : List IncomingItem) (n : ℕ) (i : FormItem) → find (λ z. z.item == n) (map book.book_form_item (map book_item items)) ≡ Some i
    → IsAmong items n i
found_among [] n i e = absurd (cc e)
found_among (x ∷ items) n i e =
    elim (cases_Bool (eqb x.item.0 n)) as (λ _. IsAmong (x ∷ items) n i) [
      | inl here ↦
          let some : Some (book.book_form_item (book_item x)) ≡ Some i = rw here at e in
          let it : book.book_form_item (book_item x) ≡ i = cc some in
          record { place = 0; within = omega arith; is = eqb-true x.item.0 n here; same = ap (λ (z : FormItem). z.item) (sym it) ∙ eqb-true x.item.0 n here }
      | inr later ↦
          let rest : find (λ (z : FormItem). z.item == n) (map book.book_form_item (map book_item items)) ≡ Some i = rw later at e in
          let h = found_among items n i rest in
          record { place = suc h.place; within = omega (arith, h.within); is = h.is; same = h.same }
    ]

open_from : (V : PlantRows) (lane : IncomingLane) (before : List Entry) (item : ℕ) (P : FormItem → Type 0) (o : Option FormItem)
    → item_on (form_of V lane) item ≡ o
    → IsSomeAnd o (λ i. GoesOn (form_of V lane) i before × P i) → IsOpenOn lane before item
open_from V lane before item P None e h = absurd h
open_from V lane before item P (Some i) e h =
    let at = found_among lane.items item i e in
    record { place = at.place; within = at.within; is = at.is; unended = ap (λ (n : ℕ). is_ended n before) (sym at.same) ∙ h.0.unended }

pub open_on : (V : PlantRows) (lane : IncomingLane) (before : List Entry) (e : Entry) (item : ℕ) → EntryFits (form_of V lane) before e → is_of item e ≡ true
    → IsOpenOn lane before item
open_on V lane before (LineOf i period quantity cumulative) item fits own =
    subst (λ (n : ℕ). IsOpenOn lane before n) (eqb-true i item own) (open_from V lane before i _ (item_on (form_of V lane) i) refl fits)
open_on V lane before (EndOf i lines cumulative) item fits own =
    subst (λ (n : ℕ). IsOpenOn lane before n) (eqb-true i item own) (open_from V lane before i _ (item_on (form_of V lane) i) refl fits)
open_on V lane before (ResetOf i closed) item fits own =
    subst (λ (n : ℕ). IsOpenOn lane before n) (eqb-true i item own) (open_from V lane before i _ (item_on (form_of V lane) i) refl fits)
open_on V lane before Closing item fits own = absurd (cc own)
