-- Records of a lane: a list of them in form, record by record, and what each adds to the records of its item.
use Rattle.std.proofs.Common.{◌≡◌, ℕ, ◌+◌, ◌==◌, true, false, Some, Option, List, [], ◌∷◌, ◌++◌, ◌⊎◌, inl, inr, refl, sym, ◌∙◌, ap, subst, length, append_assoc}
use Rattle.std.proofs.Common.{length-append, arith}
use Rattle.std.specs.Prelude.{IsSomeAnd}
use Rattle.std.proofs.lemmas.Bool.{cases_Bool, eqb-true, false≢true}
use Rattle.std.proofs.lemmas.List.{append-nil, map-append}
use Rattle.std.proofs.lemmas.List.Elements.{filter-append}
use Rattle.mrp_record.specs.declared.record.Record.{Record}
use Rattle.mrp_record.specs.Entries.{Entry, LineOf, EndOf, ResetOf, Closing, content, contents, is_of, entries_of}
use Rattle.mrp_record.specs.Form.{FormItem, LaneForm, item_on, GoesOn, LineFits, EndFits, ResetFits, EntryFits, Continues, IsInForm}
use Rattle.mrp_record.specs.Text.{NumberedFrom}
use Rattle.mrp_record.proofs.Own.{AllOf}
use Rattle.mrp_record.proofs.Tallies.{Tally, after, tally, start, OwnGoesOn, OwnForm, figure_is, closed_is, lines_is, next_is, anew_is, ended_is}

-- ---- record by record

further : (form : LaneForm) (P : List Entry → Type 0) → ((before : List Record) (r : Record) → Continues form before r → P (contents before)
    → P (contents before ++ content r ∷ []))
    → (before after : List Record) → IsInForm form (before ++ after) → P (contents before) → P (contents (before ++ after))
further form P step before [] h p = subst (λ (z : List Record). P (contents z)) (sym (append-nil before)) p
further form P step before (r ∷ after) h p =
    let more : P (contents (before ++ r ∷ [])) = subst P (sym (map-append content before (r ∷ []))) (step before r (h before after r refl) p) in
    let same : (before ++ r ∷ []) ++ after ≡ before ++ r ∷ after = append_assoc before (r ∷ []) after in
    subst (λ (z : List Record). P (contents z)) same (further form P step (before ++ r ∷ []) after (subst (IsInForm form) (sym same) h) more)

-- what holds of no records, and after each record if before it, holds of a list in form
pub grow : (form : LaneForm) (P : List Entry → Type 0) → P [] → ((before : List Record) (r : Record) → Continues form before r → P (contents before)
    → P (contents before ++ content r ∷ []))
    → (records : List Record) → IsInForm form records → P (contents records)
grow form P first step records h = further form P step [] records h first

numbered_after : (form : LaneForm) (before after : List Record) → IsInForm form (before ++ after) → NumberedFrom (length before + 1) after
numbered_after form before [] h = tt
numbered_after form before (r ∷ after) h =
    let same : (before ++ r ∷ []) ++ after ≡ before ++ r ∷ after = append_assoc before (r ∷ []) after in
    let later = numbered_after form (before ++ r ∷ []) after (subst (IsInForm form) (sym same) h) in
    let next : length (before ++ r ∷ []) + 1 ≡ length before + 1 + 1 = omega (arith, length-append before (r ∷ [])) in
    ((h before after r refl).number, subst (λ (n : ℕ). NumberedFrom n after) next later)

pub numbered : (form : LaneForm) (records : List Record) → IsInForm form records → NumberedFrom 1 records
numbered form records h = subst (λ (n : ℕ). NumberedFrom n records) (omega arith) (numbered_after form [] records h)

-- a list is empty or has a last record
pub record IsPushed (records : List Record) : Type 0 where
  pub front : List Record
  pub last : Record
  pub is : records ≡ front ++ last ∷ []

pub last_of : (records : List Record) → (records ≡ []) ⊎ IsPushed records
last_of [] = inl refl
last_of (r ∷ records) = elim (last_of records) [
  | inl none ↦ inr (record { front = []; last = r; is = ap (λ (z : List Record). r ∷ z) none })
  | inr p ↦ inr (record { front = r ∷ p.front; last = p.last; is = ap (λ (z : List Record). r ∷ z) p.is })
]

pub in_form_front : (form : LaneForm) (front more : List Record) → IsInForm form (front ++ more) → IsInForm form front
in_form_front form front more h before after s e =
    h before (after ++ more) s (ap (λ (z : List Record). z ++ more) e ∙ append_assoc before (s ∷ after) more)

-- ---- the records of an item

pub own_pushed : (item : ℕ) (es : List Entry) (e : Entry) → is_of item e ≡ true → entries_of item (es ++ e ∷ []) ≡ entries_of item es ++ e ∷ []
own_pushed item es e h =
    let one : entries_of item (e ∷ []) ≡ e ∷ [] = rw h refl in
    filter-append (is_of item) es (e ∷ []) ∙ ap (λ (z : List Entry). entries_of item es ++ z) one

pub other_pushed : (item : ℕ) (es : List Entry) (e : Entry) → is_of item e ≡ false → entries_of item (es ++ e ∷ []) ≡ entries_of item es
other_pushed item es e h =
    let none : entries_of item (e ∷ []) ≡ [] = rw h refl in
    filter-append (is_of item) es (e ∷ []) ∙ ap (λ (z : List Entry). entries_of item es ++ z) none ∙ append-nil (entries_of item es)

of_its : (item : ℕ) (e : Entry) → is_of item e ≡ true → (other : ℕ) → is_of other e ≡ (item == other)
of_its item (LineOf j p q c) own other = ap (λ (n : ℕ). n == other) (eqb-true j item own)
of_its item (EndOf j n c) own other = ap (λ (n : ℕ). n == other) (eqb-true j item own)
of_its item (ResetOf j c) own other = ap (λ (n : ℕ). n == other) (eqb-true j item own)
of_its item Closing own other = absurd (false≢true own)

pub own_all : (item : ℕ) (es : List Entry) → AllOf item (entries_of item es)
own_all item [] = tt
own_all item (e ∷ es) = elim (cases_Bool (is_of item e)) [
  | inl own ↦
      let kept : entries_of item (e ∷ es) ≡ e ∷ entries_of item es = rw own refl in
      subst (AllOf item) (sym kept) (of_its item e own, own_all item es)
  | inr other ↦
      let left : entries_of item (e ∷ es) ≡ entries_of item es = rw other refl in
      subst (AllOf item) (sym left) (own_all item es)
]

-- ---- each goes on from those before it

own_form_pushed : (form : LaneForm) (i : FormItem) (t : Tally) (own : List Entry) (e : Entry) → OwnForm form i t own → OwnGoesOn form i (tally t own) e
    → OwnForm form i t (own ++ e ∷ [])
own_form_pushed form i t [] e h g = (g, tt)
own_form_pushed form i t (x ∷ own) e h g = (h.0, own_form_pushed form i (after t x) own e h.1 g)

own_goes_on : (form : LaneForm) (i : FormItem) (es : List Entry) (e : Entry) → item_on form i.item ≡ Some i → is_of i.item e ≡ true → EntryFits form es e
    → OwnGoesOn form i (tally (start i.opening) (entries_of i.item es)) e
own_goes_on form i es (LineOf item p q c) found own fits =
    let same : item_on form item ≡ Some i = ap (item_on form) (eqb-true item i.item own) ∙ found in
    let f : GoesOn form i es × LineFits form i es p q c = subst (λ (o : Option FormItem). IsSomeAnd o (λ i. GoesOn form i es × LineFits form i es p q c)) same
    fits in
    let t = start i.opening in
    let mine = entries_of i.item es in
    record {
      unended = ended_is t mine ∙ f.0.unended;
      inside = f.1.inside;
      rises = λ r. omega (arith, f.1.rises r, next_is t mine);
      some = f.1.some;
      figure = omega (arith, f.1.figure, figure_is t mine);
      small = omega (arith, f.1.small, closed_is t mine);
      side = anew_is t mine ∙ f.1.side;
    }
own_goes_on form i es (EndOf item n c) found own fits =
    let same : item_on form item ≡ Some i = ap (item_on form) (eqb-true item i.item own) ∙ found in
    let f : GoesOn form i es × EndFits i es n c = subst (λ (o : Option FormItem). IsSomeAnd o (λ i. GoesOn form i es × EndFits i es n c)) same fits in
    let t = start i.opening in
    let mine = entries_of i.item es in
    record {
      unended = ended_is t mine ∙ f.0.unended;
      count = omega (arith, f.1.count, lines_is t mine);
      figure = omega (arith, f.1.figure, figure_is t mine);
      side = λ s. anew_is t mine ∙ f.1.side s;
    }
own_goes_on form i es (ResetOf item c) found own fits =
    let same : item_on form item ≡ Some i = ap (item_on form) (eqb-true item i.item own) ∙ found in
    let f : GoesOn form i es × ResetFits i es c = subst (λ (o : Option FormItem). IsSomeAnd o (λ i. GoesOn form i es × ResetFits i es c)) same fits in
    let t = start i.opening in
    let mine = entries_of i.item es in
    record {
      unended = ended_is t mine ∙ f.0.unended;
      awaited = f.1.awaited;
      first = anew_is t mine ∙ f.1.first;
      figure = omega (arith, f.1.figure, figure_is t mine);
    }
own_goes_on form i es Closing found own fits = absurd (false≢true own)

-- the records of an item in a list in form
pub own_forms : (form : LaneForm) (records : List Record) → IsInForm form records → (i : FormItem) → item_on form i.item ≡ Some i
    → OwnForm form i (start i.opening) (entries_of i.item (contents records))
own_forms form records h i found =
    grow form (λ es. OwnForm form i (start i.opening) (entries_of i.item es)) tt
    (λ before r c mine.
    let es = contents before in
    let e = content r in
    elim (cases_Bool (is_of i.item e)) [
      | inl own ↦
          subst (OwnForm form i (start i.opening)) (sym (own_pushed i.item es e own))
          (own_form_pushed form i (start i.opening) (entries_of i.item es) e mine (own_goes_on form i es e found own c.fits))
      | inr other ↦ subst (OwnForm form i (start i.opening)) (sym (other_pushed i.item es e other)) mine
    ])
    records
    h
