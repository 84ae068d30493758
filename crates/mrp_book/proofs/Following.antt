-- The book: what it follows, a list in form, record by record, and which block is open in it.
use Rattle.std.proofs.Common.{◌≡◌, ℕ, ◌==◌, Bool, true, false, not, ◌&&◌, Some, None, Option, List, [], ◌∷◌, ◌++◌, inl, inr, refl, sym, ◌∙◌, ap, subst, length}
use Rattle.std.proofs.Common.{get_or, arith}
use Rattle.std.specs.Prelude.{nat_lt, IsSomeAnd}
use Rattle.std.specs.List.{All, find, list_any}
use Rattle.std.proofs.lemmas.Bool.{cases_Bool, eq-eqb, eqb-true, eqb-false, ne_eqb, and_left, and_right, and_cases, and_from, not_from_true, not_from_false}
use Rattle.std.proofs.lemmas.Bool.{or_from, or_left, or_right, both_ways, true≢false, lt-ltb}
use Rattle.std.proofs.lemmas.List.{append-nil, map-append, length-append}
use Rattle.std.proofs.lemmas.List.Elements.{All-head, All-tail}
use Rattle.std.proofs.lemmas.List.Sums.{fold_push}
use Rattle.mrp_record.specs.declared.record.Record.{Record}
use Rattle.mrp_record.specs.Entries.{Entry, LineOf, EndOf, ResetOf, Closing, content, contents, is_of, is_end, entries_of}
use Rattle.mrp_record.specs.Blocks.{is_open}
use Rattle.mrp_record.specs.Form.{FormItem, LaneForm, item_on, is_other_open, GoesOn, LineFits, EndFits, ResetFits, EntryFits, Continues, IsInForm}
use Rattle.mrp_record.proofs.FormItems.{item_is}
use Rattle.mrp_record.proofs.Fronts.{overlap, nothing_after}
use Rattle.mrp_record.proofs.Growing.{last_of, own_pushed, other_pushed}
use Rattle.mrp_record.proofs.Own.{list_any-append, list_any-front}
use Rattle.mrp_book.specs.Faults.{is_other_begun}
use Rattle.mrp_book.specs.Figures.{begun, begun_by}

-- ---- one record more

pub in_form_push : (form : LaneForm) (records : List Record) (r : Record) → IsInForm form records → Continues form records r → IsInForm form (records ++ r ∷ [])
in_form_push form records r h c before after s e = elim (overlap records (r ∷ []) before (s ∷ after) e) [
  | inl b ↦ by b.more b.is b.after
  | inr i ↦
      let none : i.more ++ s ∷ after ≡ [] = cc (i.after) in
      absurd (nothing_after i.more after s none)
]
  where
    by : (more : List Record) → records ≡ before ++ more → more ++ r ∷ [] ≡ s ∷ after → Continues form before s
    by [] is then =
        let same : before ≡ records = sym (is ∙ append-nil before) in
        let one : s ≡ r = cc (then) in
        subst (λ (z : List Record). Continues form z s) (sym same) (subst (λ (z : Record). Continues form records z) (sym one) c)
    by (y ∷ more) is then =
        let one : y ≡ s = cc (then) in
        h before more s (is ∙ ap (λ (z : Record). before ++ z ∷ more) one)

pub in_form_last : (form : LaneForm) (records : List Record) (r : Record) → IsInForm form (records ++ r ∷ []) → Continues form records r
in_form_last form records r h = h records [] r refl

-- ---- tests over the items of a lane

any_false : {X : Type 0} (p q : X → Bool) (xs : List X) → list_any p xs ≡ false → ((x : X) → p x ≡ false → q x ≡ false) → list_any q xs ≡ false
any_false p q [] h g = refl
any_false p q (x ∷ xs) h g =
    let here : list_any p (x ∷ []) ≡ false = list_any-front p (x ∷ []) xs h in
    elim (cases_Bool (p x)) [
      | inl holds ↦
          let wrong : true ≡ false = rw holds at h in
          absurd (true≢false wrong)
      | inr other ↦
          let rest : list_any p xs ≡ false = rw other at h in
          or_from (q x) (list_any q xs) (g x other) (any_false p q xs rest g)
    ]

all_false : {X : Type 0} (q : X → Bool) (xs : List X) → All (λ x. q x ≡ false) xs → list_any q xs ≡ false
all_false q [] h = refl
all_false {X} q (x ∷ xs) h =
    or_from (q x) (list_any q xs) (All-head (λ (y : X). q y ≡ false) x xs h) (all_false q xs (All-tail (λ (y : X). q y ≡ false) x xs h))

found_true : {X : Type 0} (p q : X → Bool) (xs : List X) (x : X) → find p xs ≡ Some x → q x ≡ true → list_any q xs ≡ true
found_true p q [] x e h = absurd (cc)
found_true p q (y ∷ xs) x e h =
    elim (cases_Bool (p y)) [
      | inl here ↦
          let some : Some y ≡ Some x = rw here at e in
          let one : y ≡ x = cc in
          or_left (q y) (list_any q xs) (ap q one ∙ h)
      | inr other ↦
          let later : find p xs ≡ Some x = rw other at e in
          or_right (q y) (list_any q xs) (found_true p q xs x later h)
    ]

-- ---- which block is open after a record

abbrev pub opens : List Entry → Bool
opens own = nat_lt 0 (length own) && not (list_any is_end own)

-- no other block than the record's own is open after it
others_shut : (form : LaneForm) (es : List Entry) (e : Entry) (i : FormItem) → GoesOn form i es → ((other : ℕ) → is_of other e ≡ (i.item == other))
    → (item : ℕ) → ((other : ℕ) → (other == i.item) ≡ true → (not (other == item) && is_open other (es ++ e ∷ [])) ≡ false)
    → is_other_open form item (es ++ e ∷ []) ≡ false
others_shut form es e i goes is item mine =
    any_false (λ (o : FormItem). not (o.item == i.item) && is_open o.item es) (λ (o : FormItem). not (o.item == item)
    && is_open o.item (es ++ e ∷ [])) form.items goes.alone
    (λ o shut. elim (cases_Bool (o.item == i.item)) [
      | inl same ↦ mine o.item same
      | inr apart ↦
          let back : (i.item == o.item) ≡ false = ne_eqb i.item o.item (λ z. eqb-false o.item i.item apart (sym z)) in
          let before : is_open o.item es ≡ false =
          elim (and_cases (not (o.item == i.item)) (is_open o.item es) shut) [
            | inl wrong ↦ absurd (both_ways (not (o.item == i.item)) wrong (not_from_false (o.item == i.item) apart))
            | inr closed ↦ closed
          ] in
          and_right (not (o.item == item)) (is_open o.item (es ++ e ∷ [])) (ap opens (other_pushed o.item es e (is o.item ∙ back)) ∙ before)
    ])

pub still_unended : (own : List Entry) (e : Entry) → list_any is_end own ≡ false → is_end e ≡ false → list_any is_end (own ++ e ∷ []) ≡ false
still_unended own e h g = list_any-append is_end own (e ∷ []) h (or_from (is_end e) false g refl)

-- after a line or a reset the item's block is open
going_on : (form : LaneForm) (es : List Entry) (e : Entry) (i : FormItem) (i' : ℕ) → item_on form i' ≡ Some i → GoesOn form i es
    → ((other : ℕ) → is_of other e ≡ (i' == other)) → is_end e ≡ false
    → (item : ℕ) → not (i' == item) ≡ is_other_open form item (es ++ e ∷ [])
going_on form es e i i' found goes is more item =
    let same : i.item ≡ i' = item_is form.items i' i found in
    let is_i : (other : ℕ) → is_of other e ≡ (i.item == other) = λ other. is other ∙ ap (λ (n : ℕ). n == other) (sym same) in
    elim (cases_Bool (i' == item)) [
      | inl here ↦
          let at : i' ≡ item = eqb-true i' item here in
          let mine : (other : ℕ) → (other == i.item) ≡ true → (not (other == item) && is_open other (es ++ e ∷ [])) ≡ false =
          λ other eq. and_left (not (other == item)) (is_open other (es ++ e ∷ []))
          (not_from_true (other == item) (eq-eqb other item (eqb-true other i.item eq ∙ same ∙ at))) in
          not_from_true (i' == item) here ∙ sym (others_shut form es e i goes is_i item mine)
      | inr apart ↦
          let own : entries_of i.item (es ++ e ∷ []) ≡ entries_of i.item es ++ e ∷ [] = own_pushed i.item es e (is_i i.item ∙ eq-eqb i.item i.item refl) in
          let some : nat_lt 0 (length (entries_of i.item es ++ e ∷ [])) ≡ true =
          lt-ltb 0 (length (entries_of i.item es ++ e ∷ [])) (omega (arith, length-append (entries_of i.item es) (e ∷ []))) in
          let unended : list_any is_end (entries_of i.item es ++ e ∷ []) ≡ false = still_unended (entries_of i.item es) e goes.unended more in
          let open_now : is_open i.item (es ++ e ∷ []) ≡ true =
          ap opens own ∙ and_from (nat_lt 0 (length (entries_of i.item es ++ e ∷ []))) (not (list_any is_end (entries_of i.item es ++ e ∷ []))) some
          (not_from_false (list_any is_end (entries_of i.item es ++ e ∷ [])) unended) in
          let far : not (i.item == item) ≡ true = ap (λ (n : ℕ). not (n == item)) same ∙ not_from_false (i' == item) apart in
          not_from_false (i' == item) apart
          ∙ sym (found_true (λ (j : FormItem). j.item == i') (λ (o : FormItem). not (o.item == item) && is_open o.item (es ++ e ∷ [])) form.items i found
          (and_from (not (i.item == item)) (is_open i.item (es ++ e ∷ [])) far open_now))
    ]

begun_pushed : (es : List Entry) (e : Entry) → begun (es ++ e ∷ []) ≡ begun_by e
begun_pushed es e = fold_push (λ (_ : Option ℕ) (e : Entry). begun_by e) None es e

has_end : (xs : List Entry) (item lines cumulative : ℕ) → list_any is_end (xs ++ EndOf item lines cumulative ∷ []) ≡ true
has_end [] item lines cumulative = refl
has_end (x ∷ xs) item lines cumulative = or_right (is_end x) (list_any is_end (xs ++ EndOf item lines cumulative ∷ [])) (has_end xs item lines cumulative)

agrees_pushed : (form : LaneForm) (es : List Entry) (e : Entry) → EntryFits form es e → (item : ℕ)
    → is_other_begun (begun_by e) item ≡ is_other_open form item (es ++ e ∷ [])
agrees_pushed form es (LineOf i' p q c) fits item = by (item_on form i') refl fits
  where
    by : (o : Option FormItem) → item_on form i' ≡ o → IsSomeAnd o (λ i. GoesOn form i es × LineFits form i es p q c)
        → not (i' == item) ≡ is_other_open form item (es ++ LineOf i' p q c ∷ [])
    by None found h = absurd h
    by (Some i) found h = going_on form es (LineOf i' p q c) i i' found h.0 (λ other. refl) refl item
agrees_pushed form es (ResetOf i' c) fits item = by (item_on form i') refl fits
  where
    by : (o : Option FormItem) → item_on form i' ≡ o → IsSomeAnd o (λ i. GoesOn form i es × ResetFits i es c)
        → not (i' == item) ≡ is_other_open form item (es ++ ResetOf i' c ∷ [])
    by None found h = absurd h
    by (Some i) found h = going_on form es (ResetOf i' c) i i' found h.0 (λ other. refl) refl item
agrees_pushed form es (EndOf i' n c) fits item = by (item_on form i') refl fits
  where
    by : (o : Option FormItem) → item_on form i' ≡ o → IsSomeAnd o (λ i. GoesOn form i es × EndFits i es n c)
        → false ≡ is_other_open form item (es ++ EndOf i' n c ∷ [])
    by None found h = absurd h
    by (Some i) found h =
        let e = EndOf i' n c in
        let same : i.item ≡ i' = item_is form.items i' i found in
        let is_i : (other : ℕ) → is_of other e ≡ (i.item == other) = λ other. ap (λ (n : ℕ). n == other) (sym same) in
        let mine : (other : ℕ) → (other == i.item) ≡ true → (not (other == item) && is_open other (es ++ e ∷ [])) ≡ false =
        λ other eq.
        let own : entries_of other (es ++ e ∷ []) ≡ entries_of other es ++ e ∷ [] =
        own_pushed other es e (is_i other ∙ eq-eqb i.item other (sym (eqb-true other i.item eq))) in
        let ended : list_any is_end (entries_of other es ++ e ∷ []) ≡ true = has_end (entries_of other es) i' n c in
        let shut : is_open other (es ++ e ∷ []) ≡ false =
        ap opens own ∙ and_right (nat_lt 0 (length (entries_of other es ++ e ∷ []))) (not (list_any is_end (entries_of other es ++ e ∷ [])))
        (not_from_true (list_any is_end (entries_of other es ++ e ∷ [])) ended) in
        and_right (not (other == item)) (is_open other (es ++ e ∷ [])) shut in
        sym (others_shut form es e i h.0 is_i item mine)
agrees_pushed form es Closing fits item =
    sym (all_false (λ (o : FormItem). not (o.item == item) && is_open o.item (es ++ Closing ∷ [])) form.items
    (λ k d l.
    let o = get_or form.items k d in
    let ended : list_any is_end (entries_of o.item es) ≡ true = fits k d l in
    let shut : is_open o.item (es ++ Closing ∷ []) ≡ false =
    ap opens (other_pushed o.item es Closing refl) ∙ and_right (nat_lt 0 (length (entries_of o.item es))) (not (list_any is_end (entries_of o.item es)))
    (not_from_true (list_any is_end (entries_of o.item es)) ended) in
    and_right (not (o.item == item)) (is_open o.item (es ++ Closing ∷ [])) shut))

-- the item that a list in form leaves open is the one whose block is open
pub begun_agrees : (form : LaneForm) (records : List Record) → IsInForm form records → (item : ℕ)
    → is_other_begun (begun (contents records)) item ≡ is_other_open form item (contents records)
begun_agrees form records h item = elim (last_of records) [
  | inl none ↦
      subst (λ (z : List Record). is_other_begun (begun (contents z)) item ≡ is_other_open form item (contents z)) (sym none)
      (sym (all_false (λ (o : FormItem). not (o.item == item) && is_open o.item []) form.items
      (λ k d l. and_right (not ((get_or form.items k d).item == item)) false refl)))
  | inr p ↦
      let es = contents p.front in
      let e = content p.last in
      let c : Continues form p.front p.last = in_form_last form p.front p.last (subst (IsInForm form) p.is h) in
      let parts : contents records ≡ es ++ e ∷ [] = ap contents p.is ∙ map-append content p.front (p.last ∷ []) in
      subst (λ (z : List Entry). is_other_begun (begun z) item ≡ is_other_open form item z) (sym parts)
      (ap (λ (o : Option ℕ). is_other_begun o item) (begun_pushed es e) ∙ agrees_pushed form es e c.fits item)
]
