-- Records of a lane: a list of them in form is those of its items in the order of their blocks, whole blocks,
-- and then the block that goes on.
use Rattle.std.proofs.Common.{◌≡◌, ℕ, ◌==◌, true, false, not, ◌&&◌, Some, None, Option, List, [], ◌∷◌, ◌++◌, ◌⊎◌, inl, inr, refl, sym, ◌∙◌, ap, subst, length}
use Rattle.std.proofs.Common.{get_or, append_assoc, arith}
use Rattle.std.specs.Prelude.{nat_lt, IsSomeAnd}
use Rattle.std.specs.List.{All, Contains, IsDistinct, flat_map, list_any, remove}
use Rattle.std.specs.List.Sorted.{IsPermutation}
use Rattle.std.proofs.lemmas.Bool.{cases_Bool, eq-eqb, eqb-true, ne_eqb, and_cases, not_from_false, both_ways, false≢true, ltb-false, or_parts}
use Rattle.std.proofs.lemmas.List.{append-nil, flat_map_more}
use Rattle.std.proofs.lemmas.List.Elements.{All-nil, All-cons, All-head, All-tail, All-push, All-contains, All-weaker, Contains-append_cases}
use Rattle.std.proofs.lemmas.List.Elements.{Contains-append_right}
use Rattle.std.proofs.lemmas.List.Sorted.{IsPermutation-refl, IsPermutation-sym, IsPermutation-trans, IsPermutation-append_right, IsPermutation-remove}
use Rattle.std.proofs.lemmas.List.Sorted.{All-permutation, Contains-permutation}
use Rattle.mrp_record.specs.declared.record.Record.{Record}
use Rattle.mrp_record.specs.Entries.{Entry, LineOf, EndOf, ResetOf, Closing, content, contents, is_of, is_end, is_closing, entries_of, is_ended, is_closed}
use Rattle.mrp_record.specs.Blocks.{is_open}
use Rattle.mrp_record.specs.Form.{FormItem, LaneForm, item_on, GoesOn, LineFits, EndFits, ResetFits, EntryFits, IsInForm}
use Rattle.mrp_record.specs.Laws.{is_same_form_item}
use Rattle.mrp_record.proofs.FormItems.{item_is, found_in, none_at, apart_after}
use Rattle.mrp_record.proofs.Growing.{grow, own_pushed, other_pushed}
use Rattle.mrp_record.proofs.Own.{list_any-front}

-- the records of an item
abbrev pub own : List Entry → FormItem → List Entry
own es i = entries_of i.item es

-- no block is open: whole blocks, in the order of their ends, and the items whose blocks haven't begun
pub record IsResting (form : LaneForm) (es : List Entry) : Type 0 where
  pub done : List FormItem
  pub todo : List FormItem
  pub order : IsPermutation form.items (done ++ todo)
  pub ended : All (λ i. is_ended i.item es ≡ true) done
  pub unbegun : All (λ i. own es i ≡ []) todo
  pub is : es ≡ flat_map (own es) done

-- the block of an item goes on after whole blocks, or is about to begin, or has just ended
pub record IsAt (form : LaneForm) (es : List Entry) (i : FormItem) : Type 0 where
  pub done : List FormItem
  pub todo : List FormItem
  pub order : IsPermutation form.items (done ++ i ∷ todo)
  pub ended : All (λ j. is_ended j.item es ≡ true) done
  pub unbegun : All (λ j. own es j ≡ []) todo
  pub is : es ≡ flat_map (own es) done ++ own es i

pub record IsAtSome (form : LaneForm) (es : List Entry) : Type 0 where
  pub item : FormItem
  pub at : IsAt form es item

abbrev pub IsOrdered : LaneForm → List Entry → Type 0
IsOrdered form es = IsResting form es ⊎ IsAtSome form es

-- ---- no block is open any more

empty_list : {X : Type 0} (xs : List X) → nat_lt 0 (length xs) ≡ false → xs ≡ []
empty_list [] h = refl
empty_list (x ∷ xs) h = absurd (omega (arith, ltb-false 0 (length (x ∷ xs)) h))

pub rest_after : (form : LaneForm) (es : List Entry) (i : FormItem) → IsAt form es i → is_open i.item es ≡ false → IsResting form es
rest_after form es i at shut = elim (cases_Bool (is_ended i.item es)) [
  | inl ended ↦
      record {
        done = at.done ++ i ∷ [];
        todo = at.todo;
        order = subst (IsPermutation form.items) (sym (append_assoc at.done (i ∷ []) at.todo)) at.order;
        ended = All-push (λ (j : FormItem). is_ended j.item es ≡ true) at.done i at.ended ended;
        unbegun = at.unbegun;
        is = at.is ∙ flat_map_more (own es) [] at.done i;
      }
  | inr unended ↦
      let none : own es i ≡ [] =
      elim (and_cases (nat_lt 0 (length (own es i))) (not (is_ended i.item es)) shut) [
        | inl empty ↦ empty_list (own es i) empty
        | inr wrong ↦ absurd (both_ways (not (is_ended i.item es)) wrong (not_from_false (is_ended i.item es) unended))
      ] in
      record {
        done = at.done;
        todo = i ∷ at.todo;
        order = at.order;
        ended = at.ended;
        unbegun = All-cons (λ (j : FormItem). own es j ≡ []) i at.todo none at.unbegun;
        is = at.is ∙ ap (λ (z : List Entry). flat_map (own es) at.done ++ z) none ∙ append-nil (flat_map (own es) at.done);
      }
]

-- ---- an item that hasn't ended comes next

at_next : (form : LaneForm) (es : List Entry) (i : FormItem) → IsResting form es → Contains form.items i → is_ended i.item es ≡ false → IsAt form es i
at_next form es i r there unended =
    elim (Contains-append_cases r.done r.todo i (Contains-permutation form.items (r.done ++ r.todo) i r.order there)) [
      | inl among ↦ absurd (both_ways (is_ended i.item es) unended (All-contains (λ (j : FormItem). is_ended j.item es ≡ true) r.done i r.ended among))
      | inr among ↦
          let k = among.0 in
          let todo = remove r.todo k in
          let front : IsPermutation r.todo (i ∷ todo) = IsPermutation-remove r.todo k i among.1 (sym among.2) in
          let none : own es i ≡ [] = All-contains (λ (j : FormItem). own es j ≡ []) r.todo i r.unbegun among in
          record {
            done = r.done;
            todo = todo;
            order = IsPermutation-trans form.items (r.done ++ r.todo) (r.done ++ i ∷ todo) r.order (IsPermutation-append_right r.done r.todo (i ∷ todo) front);
            ended = r.ended;
            unbegun = All-tail (λ (j : FormItem). own es j ≡ []) i todo (All-permutation (λ (j : FormItem). own es j ≡ []) r.todo (i ∷ todo) front r.unbegun);
            is = r.is ∙ sym (append-nil (flat_map (own es) r.done)) ∙ ap (λ (z : List Entry). flat_map (own es) r.done ++ z) (sym none);
          }
    ]

-- the block of that item, by its number
record IsAtItem (form : LaneForm) (es : List Entry) (item : ℕ) : Type 0 where
  i : FormItem
  same : i.item ≡ item
  at : IsAt form es i

to_item : (form : LaneForm) (es : List Entry) (i : FormItem) → Contains form.items i → GoesOn form i es → IsOrdered form es → IsAtItem form es i.item
to_item form es i there goes h = elim h [
  | inl resting ↦ record { i = i; same = refl; at = at_next form es i resting there goes.unended }
  | inr s ↦
      let j = s.item in
      elim (cases_Bool (j.item == i.item)) [
        | inl same ↦ record { i = j; same = eqb-true j.item i.item same; at = s.at }
        | inr apart ↦
            let among : Contains form.items j =
            Contains-permutation (s.at.done ++ j ∷ s.at.todo) form.items j (IsPermutation-sym form.items (s.at.done ++ j ∷ s.at.todo) s.at.order)
            (Contains-append_right s.at.done (j ∷ s.at.todo) j (0, (omega arith), refl)) in
            let shut : (not (j.item == i.item) && is_open j.item es) ≡ false =
            All-contains (λ (o : FormItem). (not (o.item == i.item) && is_open o.item es) ≡ false) form.items j
            (none_at (λ (o : FormItem). not (o.item == i.item) && is_open o.item es) form.items goes.alone) among in
            let closed : is_open j.item es ≡ false =
            elim (and_cases (not (j.item == i.item)) (is_open j.item es) shut) [
              | inl wrong ↦ absurd (both_ways (not (j.item == i.item)) wrong (not_from_false (j.item == i.item) apart))
              | inr is ↦ is
            ] in
            record { i = i; same = refl; at = at_next form es i (rest_after form es j s.at closed) there goes.unended }
      ]
]

-- ---- one record more

-- items that aren't the record's keep theirs
kept : (es : List Entry) (e : Entry) (item : ℕ) → ((other : ℕ) → is_of other e ≡ (item == other)) → (j : FormItem) → (item == j.item) ≡ false
    → own (es ++ e ∷ []) j ≡ own es j
kept es e item is j apart = other_pushed j.item es e (is j.item ∙ apart)

blocks_kept : (es : List Entry) (e : Entry) (item : ℕ) → ((other : ℕ) → is_of other e ≡ (item == other)) → (js : List FormItem)
    → All (λ j. (item == j.item) ≡ false) js
    → flat_map (own (es ++ e ∷ [])) js ≡ flat_map (own es) js
blocks_kept es e item is [] apart = refl
blocks_kept es e item is (j ∷ js) apart =
    let first : own (es ++ e ∷ []) j ≡ own es j = kept es e item is j (All-head (λ (k : FormItem). (item == k.item) ≡ false) j js apart) in
    let others = blocks_kept es e item is js (All-tail (λ (k : FormItem). (item == k.item) ≡ false) j js apart) in
    ap (λ (z : List Entry). z ++ flat_map (own (es ++ e ∷ [])) js) first ∙ ap (λ (z : List Entry). own es j ++ z) others

pushed : (form : LaneForm) → IsDistinct is_same_form_item form.items → (es : List Entry) (e : Entry) (i : FormItem)
    → ((other : ℕ) → is_of other e ≡ (i.item == other)) → is_ended i.item es ≡ false
    → IsAt form es i → IsAt form (es ++ e ∷ []) i
pushed form once es e i is unended at =
    let apart_done : All (λ (j : FormItem). (i.item == j.item) ≡ false) at.done =
    All-weaker (λ (j : FormItem). is_ended j.item es ≡ true) (λ (j : FormItem). (i.item == j.item) ≡ false)
    (λ j ended. ne_eqb i.item j.item (λ same. both_ways (is_ended i.item es) unended (ap (λ (n : ℕ). is_ended n es) same ∙ ended))) at.done at.ended in
    let apart_todo : All (λ (j : FormItem). (i.item == j.item) ≡ false) at.todo = apart_after form.items at.done at.todo i once at.order in
    let mine : own (es ++ e ∷ []) i ≡ own es i ++ e ∷ [] = own_pushed i.item es e (is i.item ∙ eq-eqb i.item i.item refl) in
    let whole : flat_map (own (es ++ e ∷ [])) at.done ≡ flat_map (own es) at.done = blocks_kept es e i.item is at.done apart_done in
    record {
      done = at.done;
      todo = at.todo;
      order = at.order;
      ended = λ k d l. let j = get_or at.done k d in ap (list_any is_end) (kept es e i.item is j (apart_done k d l)) ∙ at.ended k d l;
      unbegun = λ k d l. let j = get_or at.todo k d in kept es e i.item is j (apart_todo k d l) ∙ at.unbegun k d l;
      is =
          ap (λ (z : List Entry). z ++ e ∷ []) at.is
          ∙ append_assoc (flat_map (own es) at.done) (own es i) (e ∷ [])
          ∙ ap (λ (z : List Entry). flat_map (own es) at.done ++ z) (sym mine)
          ∙ ap (λ (z : List Entry). z ++ own (es ++ e ∷ []) i) (sym whole);
    }

goes_further : (form : LaneForm) → IsDistinct is_same_form_item form.items → (es : List Entry) (e : Entry) (item : ℕ) (i : FormItem)
    → item_on form item ≡ Some i → GoesOn form i es
    → ((other : ℕ) → is_of other e ≡ (item == other)) → IsOrdered form es → IsOrdered form (es ++ e ∷ [])
goes_further form once es e item i found goes is h =
    let there : Contains form.items i = found_in form.items item i found in
    let same : i.item ≡ item = item_is form.items item i found in
    let next = to_item form es i there goes h in
    let its : (other : ℕ) → is_of other e ≡ (next.i.item == other) = λ other. is other ∙ ap (λ (n : ℕ). n == other) (sym (next.same ∙ same)) in
    inr (record { item = next.i; at = pushed form once es e next.i its (ap (λ (n : ℕ). is_ended n es) next.same ∙ goes.unended) next.at })

one_more : (form : LaneForm) → IsDistinct is_same_form_item form.items → (es : List Entry) (e : Entry) → EntryFits form es e → is_closing e ≡ false
    → IsOrdered form es → IsOrdered form (es ++ e ∷ [])
one_more form once es (LineOf item p q c) fits more h = by (item_on form item) refl fits
  where
    by : (o : Option FormItem) → item_on form item ≡ o → IsSomeAnd o (λ i. GoesOn form i es × LineFits form i es p q c)
        → IsOrdered form (es ++ LineOf item p q c ∷ [])
    by None found f = absurd f
    by (Some i) found f = goes_further form once es (LineOf item p q c) item i found f.0 (λ other. refl) h
one_more form once es (EndOf item n c) fits more h = by (item_on form item) refl fits
  where
    by : (o : Option FormItem) → item_on form item ≡ o → IsSomeAnd o (λ i. GoesOn form i es × EndFits i es n c) → IsOrdered form (es ++ EndOf item n c ∷ [])
    by None found f = absurd f
    by (Some i) found f = goes_further form once es (EndOf item n c) item i found f.0 (λ other. refl) h
one_more form once es (ResetOf item c) fits more h = by (item_on form item) refl fits
  where
    by : (o : Option FormItem) → item_on form item ≡ o → IsSomeAnd o (λ i. GoesOn form i es × ResetFits i es c) → IsOrdered form (es ++ ResetOf item c ∷ [])
    by None found f = absurd f
    by (Some i) found f = goes_further form once es (ResetOf item c) item i found f.0 (λ other. refl) h
one_more form once es Closing fits more h = absurd (false≢true (sym more))

-- ---- a list in form that isn't closed

last_open : (es : List Entry) (e : Entry) → is_closed (es ++ e ∷ []) ≡ false → is_closing e ≡ false
last_open [] e h = (or_parts (is_closing e) false h).0
last_open (x ∷ es) e h = last_open es e (or_parts (is_closing x) (is_closed (es ++ e ∷ [])) h).1

pub ordered : (form : LaneForm) → IsDistinct is_same_form_item form.items → (records : List Record) → IsInForm form records
    → is_closed (contents records) ≡ false → IsOrdered form (contents records)
ordered form once records h =
    grow form (λ es. is_closed es ≡ false → IsOrdered form es) (λ _. inl first)
    (λ before r c so unclosed.
    let es = contents before in
    one_more form once es (content r) c.fits (last_open es (content r) unclosed) (so (list_any-front is_closing es (content r ∷ []) unclosed)))
    records
    h
  where
    first : IsResting form []
    first = record {
      done = [];
      todo = form.items;
      order = IsPermutation-refl form.items;
      ended = All-nil (λ (i : FormItem). is_ended i.item [] ≡ true);
      unbegun = λ k d l. refl;
      is = refl;
    }
