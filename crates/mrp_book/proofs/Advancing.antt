-- The book: the figures that it keeps of a list with one record more.
use Rattle.std.proofs.Common.{◌≡◌, ℕ, ◌+◌, ◌==◌, Bool, true, false, cond, ◌||◌, Some, None, Option, List, [], ◌∷◌, ◌++◌, inl, inr, refl, sym, ◌∙◌, ap, subst}
use Rattle.std.proofs.Common.{length, map, arith}
use Rattle.std.specs.Prelude.{IsSomeAnd}
use Rattle.std.specs.List.{IsDistinct, AllByRecursion, find, fold, list_any, sum_by, count_by}
use Rattle.std.proofs.lemmas.Bool.{cases_Bool, eq-eqb, eqb-true, eqb-false, ne_eqb, or_right}
use Rattle.std.proofs.lemmas.List.{map-append, length-append}
use Rattle.std.proofs.lemmas.List.Sums.{fold_push, sum_by_push}
use Rattle.mrp_record.specs.Laws.{is_same_form_item}
use Rattle.mrp_record.specs.declared.record.Record.{Record}
use Rattle.mrp_record.specs.declared.record.Record.TheVariants.{Line, ItemEnd, Reset, Close}
use Rattle.mrp_record.specs.Entries.{Entry, LineOf, EndOf, ResetOf, Closing, content, contents, is_of, is_end, is_closing, entries_of, is_closed, figure_after}
use Rattle.mrp_record.specs.Entries.{closed_of, in_force}
use Rattle.mrp_record.specs.Blocks.{is_line, is_reset, next_after}
use Rattle.mrp_record.specs.Form.{FormItem, LaneForm, item_on, GoesOn, ResetFits, EntryFits}
use Rattle.mrp_record.proofs.Growing.{own_pushed, other_pushed}
use Rattle.mrp_book.specs.declared.item.ItemFigure.{ItemFigure}
use Rattle.mrp_book.specs.After.{after, at_item, figure_after_line, with_end, figure_after_reset}
use Rattle.mrp_book.specs.Figures.{Figures, figures, figure_of, begun, begun_by}

-- the figures of an item by its own records
abbrev figure_from : FormItem → List Entry → ItemFigure
figure_from i own = record {
  item = record { 0 = i.item };
  reset = i.reset;
  figure = fold figure_after i.opening own;
  closed = sum_by closed_of own;
  lines = count_by is_line own;
  next_period = fold next_after 0 own;
  was_reset = list_any is_reset own;
  ended = list_any is_end own;
}

abbrev figure_with : FormItem → ℕ → ℕ → ℕ → ℕ → Bool → Bool → ItemFigure
figure_with i figure closed lines next was_reset ended = record {
  item = record { 0 = i.item };
  reset = i.reset;
  figure = figure;
  closed = closed;
  lines = lines;
  next_period = next;
  was_reset = was_reset;
  ended = ended;
}

same_figure : (i : FormItem) (f f' c c' l l' n n' : ℕ) (w w' e e' : Bool) → f ≡ f' → c ≡ c' → l ≡ l' → n ≡ n' → w ≡ w' → e ≡ e'
    → figure_with i f c l n w e ≡ figure_with i f' c' l' n' w' e'
same_figure i f f' c c' l l' n n' w w' e e' pf pc pl pn pw pe =
    ap (λ (z : ℕ). figure_with i z c l n w e) pf
    ∙ ap (λ (z : ℕ). figure_with i f' z l n w e) pc
    ∙ ap (λ (z : ℕ). figure_with i f' c' z n w e) pl
    ∙ ap (λ (z : ℕ). figure_with i f' c' l' z w e) pn
    ∙ ap (λ (z : Bool). figure_with i f' c' l' n' z e) pw
    ∙ ap (λ (z : Bool). figure_with i f' c' l' n' w' z) pe

any_pushed : (p : Entry → Bool) (es : List Entry) (e : Entry) → p e ≡ false → list_any p (es ++ e ∷ []) ≡ list_any p es
any_pushed p [] e h = rw h refl
any_pushed p (x ∷ es) e h = ap (λ (b : Bool). p x || b) (any_pushed p es e h)

any_now : (p : Entry → Bool) (es : List Entry) (e : Entry) → p e ≡ true → list_any p (es ++ e ∷ []) ≡ true
any_now p [] e h = rw h refl
any_now p (x ∷ es) e h = or_right (p x) (list_any p (es ++ e ∷ [])) (any_now p es e h)

-- ---- one item

after_line : (i : FormItem) (own : List Entry) (item p q c : ℕ) → figure_from i (own ++ LineOf item p q c ∷ []) ≡ figure_after_line p q (figure_from i own)
after_line i own item p q c =
    let e = LineOf item p q c in
    same_figure i _ _ _ _ _ _ _ _ _ _ _ _
    (fold_push figure_after i.opening own e)
    (omega (arith, sum_by_push closed_of own e))
    (sum_by_push (λ (e : Entry). cond (is_line e) 1 0) own e)
    (fold_push next_after 0 own e)
    (any_pushed is_reset own e refl)
    (any_pushed is_end own e refl)

after_end : (i : FormItem) (own : List Entry) (item n c : ℕ) → figure_from i (own ++ EndOf item n c ∷ []) ≡ with_end (figure_from i own)
after_end i own item n c =
    let e = EndOf item n c in
    same_figure i _ _ _ _ _ _ _ _ _ _ _ _
    (fold_push figure_after i.opening own e)
    (omega (arith, sum_by_push closed_of own e))
    (omega (arith, sum_by_push (λ (e : Entry). cond (is_line e) 1 0) own e))
    (fold_push next_after 0 own e)
    (any_pushed is_reset own e refl)
    (any_now is_end own e refl)

after_reset : (i : FormItem) (own : List Entry) (item c : ℕ) → c ≡ fold figure_after i.opening own
    → figure_from i (own ++ ResetOf item c ∷ []) ≡ figure_after_reset (figure_from i own)
after_reset i own item c is =
    let e = ResetOf item c in
    same_figure i _ _ _ _ _ _ _ _ _ _ _ _
    (fold_push figure_after i.opening own e)
    (omega (arith, sum_by_push closed_of own e, is))
    (omega (arith, sum_by_push (λ (e : Entry). cond (is_line e) 1 0) own e))
    (fold_push next_after 0 own e)
    (any_now is_reset own e refl)
    (any_pushed is_end own e refl)

-- ---- all items of the lane

unchanged : (es : List Entry) (e : Entry) (item : ℕ) → ((other : ℕ) → is_of other e ≡ (item == other)) → (i : FormItem) → (i.item == item) ≡ false
    → figure_of (es ++ e ∷ []) i ≡ figure_of es i
unchanged es e item is i apart =
    let back : (item == i.item) ≡ false = ne_eqb item i.item (λ z. eqb-false i.item item apart (sym z)) in
    ap (figure_from i) (other_pushed i.item es e (is i.item ∙ back))

rest_unchanged : (es : List Entry) (e : Entry) (item : ℕ) → ((other : ℕ) → is_of other e ≡ (item == other)) → (i : FormItem) → i.item ≡ item
    → (items : List FormItem)
    → AllByRecursion (λ o. is_same_form_item i o ≡ false) items → map (figure_of (es ++ e ∷ [])) items ≡ map (figure_of es) items
rest_unchanged es e item is i own [] h = refl
rest_unchanged es e item is i own (o ∷ items) h =
    let apart : (o.item == item) ≡ false = ne_eqb o.item item (λ z. eqb-false i.item o.item h.0 (own ∙ sym z)) in
    ap (λ (g : ItemFigure). g ∷ map (figure_of (es ++ e ∷ [])) items) (unchanged es e item is o apart)
    ∙ ap (λ (z : List ItemFigure). figure_of es o ∷ z) (rest_unchanged es e item is i own items h.1)

changed : (es : List Entry) (e : Entry) (item : ℕ) (change : ItemFigure → ItemFigure) → ((other : ℕ) → is_of other e ≡ (item == other))
    → (items : List FormItem) → IsDistinct is_same_form_item items
    → ((i : FormItem) → find (λ j. j.item == item) items ≡ Some i → figure_from i (entries_of i.item es ++ e ∷ []) ≡ change (figure_of es i))
    → map (figure_of (es ++ e ∷ [])) items ≡ at_item item change (map (figure_of es) items)
unfolding IsDistinct
changed es e item change is [] once step = refl
changed es e item change is (i ∷ items) once step =
    elim (cases_Bool (i.item == item)) [
      | inl own ↦
          let same : i.item ≡ item = eqb-true i.item item own in
          let found : find (λ (j : FormItem). j.item == item) (i ∷ items) ≡ Some i = rw own refl in
          let now : figure_of (es ++ e ∷ []) i ≡ change (figure_of es i) =
          ap (figure_from i) (own_pushed i.item es e (is i.item ∙ eq-eqb item i.item (sym same))) ∙ step i found in
          let rest : map (figure_of (es ++ e ∷ [])) items ≡ map (figure_of es) items = rest_unchanged es e item is i same items once.0 in
          let all : map (figure_of (es ++ e ∷ [])) (i ∷ items) ≡ change (figure_of es i) ∷ map (figure_of es) items =
          ap (λ (g : ItemFigure). g ∷ map (figure_of (es ++ e ∷ [])) items) now ∙ ap (λ (z : List ItemFigure). change (figure_of es i) ∷ z) rest in
          rw own all
      | inr apart ↦
          let later : map (figure_of (es ++ e ∷ [])) items ≡ at_item item change (map (figure_of es) items) =
          changed es e item change is items once.1 (λ j found. step j (rw apart found)) in
          let all : map (figure_of (es ++ e ∷ [])) (i ∷ items) ≡ figure_of es i ∷ at_item item change (map (figure_of es) items) =
          ap (λ (g : ItemFigure). g ∷ map (figure_of (es ++ e ∷ [])) items) (unchanged es e item is i apart)
          ∙ ap (λ (z : List ItemFigure). figure_of es i ∷ z) later in
          rw apart all
    ]

-- ---- the book

abbrev figures_with : LaneForm → ℕ → Bool → Option ℕ → List ItemFigure → Figures
figures_with form next closed begun items = record { rising = form.rising; horizon = form.horizon; next = next; closed = closed; begun = begun; items = items }

same_figures : (form : LaneForm) (n n' : ℕ) (c c' : Bool) (b b' : Option ℕ) (gs gs' : List ItemFigure) → n ≡ n' → c ≡ c' → b ≡ b' → gs ≡ gs'
    → figures_with form n c b gs ≡ figures_with form n' c' b' gs'
same_figures form n n' c c' b b' gs gs' pn pc pb pg =
    ap (λ (z : ℕ). figures_with form z c b gs) pn
    ∙ ap (λ (z : Bool). figures_with form n' z b gs) pc
    ∙ ap (λ (z : Option ℕ). figures_with form n' c' z gs) pb
    ∙ ap (λ (z : List ItemFigure). figures_with form n' c' b' z) pg

next_pushed : (records : List Record) (r : Record) → length (records ++ r ∷ []) + 1 ≡ length records + 1 + 1
next_pushed records r = omega (arith, length-append records (r ∷ []))

begun_pushed : (es : List Entry) (e : Entry) → begun (es ++ e ∷ []) ≡ begun_by e
begun_pushed es e = fold_push (λ (_ : Option ℕ) (e : Entry). begun_by e) None es e

nobody : (es : List Entry) (items : List FormItem) → map (figure_of (es ++ Closing ∷ [])) items ≡ map (figure_of es) items
nobody es [] = refl
nobody es (i ∷ items) =
    ap (λ (g : ItemFigure). g ∷ map (figure_of (es ++ Closing ∷ [])) items) (ap (figure_from i) (other_pushed i.item es Closing refl))
    ∙ ap (λ (z : List ItemFigure). figure_of es i ∷ z) (nobody es items)

pub figures_after : (form : LaneForm) (records : List Record) (r : Record) → IsDistinct is_same_form_item form.items
    → EntryFits form (contents records) (content r)
    → figures form (records ++ r ∷ []) ≡ after (figures form records) r
figures_after form records (Line number item p q c) once fits =
    let r = Line number item p q c in
    let es = contents records in
    let e = LineOf item.0 p q c in
    let parts : contents (records ++ r ∷ []) ≡ es ++ e ∷ [] = map-append content records (r ∷ []) in
    same_figures form _ _ _ _ _ _ _ _ (next_pushed records r)
    (ap is_closed parts ∙ any_pushed is_closing es e refl)
    (ap begun parts ∙ begun_pushed es e)
    (ap (λ (z : List Entry). map (figure_of z) form.items) parts
    ∙ changed es e item.0 (figure_after_line p q) (λ other. refl) form.items once (λ i found. after_line i (entries_of i.item es) item.0 p q c))
figures_after form records (ItemEnd number item n c) once fits =
    let r = ItemEnd number item n c in
    let es = contents records in
    let e = EndOf item.0 n c in
    let parts : contents (records ++ r ∷ []) ≡ es ++ e ∷ [] = map-append content records (r ∷ []) in
    same_figures form _ _ _ _ _ _ _ _ (next_pushed records r)
    (ap is_closed parts ∙ any_pushed is_closing es e refl)
    (ap begun parts ∙ begun_pushed es e)
    (ap (λ (z : List Entry). map (figure_of z) form.items) parts
    ∙ changed es e item.0 with_end (λ other. refl) form.items once (λ i found. after_end i (entries_of i.item es) item.0 n c))
figures_after form records (Reset number item c) once fits =
    let r = Reset number item c in
    let es = contents records in
    let e = ResetOf item.0 c in
    let parts : contents (records ++ r ∷ []) ≡ es ++ e ∷ [] = map-append content records (r ∷ []) in
    same_figures form _ _ _ _ _ _ _ _ (next_pushed records r)
    (ap is_closed parts ∙ any_pushed is_closing es e refl)
    (ap begun parts ∙ begun_pushed es e)
    (ap (λ (z : List Entry). map (figure_of z) form.items) parts
    ∙ changed es e item.0 figure_after_reset (λ other. refl) form.items once
    (λ i found. after_reset i (entries_of i.item es) item.0 c (closes i found fits)))
  where
    closes : (i : FormItem) → item_on form item.0 ≡ Some i → EntryFits form (contents records) (ResetOf item.0 c)
        → c ≡ in_force i.opening i.item (contents records)
    closes i found h =
        let at : IsSomeAnd (Some i) (λ (i : FormItem). GoesOn form i (contents records) × ResetFits i (contents records) c) =
        subst (λ (o : Option FormItem). IsSomeAnd o (λ i. GoesOn form i (contents records) × ResetFits i (contents records) c)) found h in
        at.1.figure
figures_after form records (Close number) once fits =
    let r = Close number in
    let es = contents records in
    let parts : contents (records ++ r ∷ []) ≡ es ++ Closing ∷ [] = map-append content records (r ∷ []) in
    same_figures form _ _ _ _ _ _ _ _ (next_pushed records r)
    (ap is_closed parts ∙ any_now is_closing es Closing refl)
    (ap begun parts ∙ begun_pushed es Closing)
    (ap (λ (z : List Entry). map (figure_of z) form.items) parts ∙ nobody es form.items)
