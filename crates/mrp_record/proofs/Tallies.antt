-- Records of a lane: what those of one item add up to, record by record, and which of
-- them a list in form may have next.
use Rattle.std.proofs.Common.{◌≡◌, ℕ, ◌+◌, ◌<◌, ◌≤◌, Bool, true, false, cond, ◌||◌, List, [], ◌∷◌, ◌++◌, refl, sym, ◌∙◌, ap, arith}
use Rattle.std.specs.Prelude.{is_some}
use Rattle.std.specs.List.{fold, list_any, sum_by, count_by}
use Rattle.std.proofs.lemmas.List.Sums.{sum_by-cons}
use Rattle.mrp_qty.specs.declared.quantity.TheConstants.{MOST}
use Rattle.mrp_record.specs.Entries.{Entry, LineOf, EndOf, ResetOf, Closing, is_end, figure_after, closed_of}
use Rattle.mrp_record.specs.Blocks.{is_line, is_reset, next_after}
use Rattle.mrp_record.specs.Form.{FormItem, LaneForm, is_anew}

pub record Tally : Type 0 where
  pub figure : ℕ
  pub closed : ℕ
  pub lines : ℕ
  pub next : ℕ
  pub anew : Bool
  pub ended : Bool

abbrev pub after : Tally → Entry → Tally
after t (LineOf item period quantity cumulative) = record t { figure = t.figure + quantity; lines = t.lines + 1; next = period + 1 }
after t (EndOf item lines cumulative) = record t { ended = true }
after t (ResetOf item closed) = record t { figure = 0; closed = t.closed + closed; anew = true }
after t Closing = t

abbrev pub tally : Tally → List Entry → Tally
tally t [] = t
tally t (e ∷ es) = tally (after t e) es

abbrev pub start : ℕ → Tally
start opening = record { figure = opening; closed = 0; lines = 0; next = 0; anew = false; ended = false }

-- ---- the parts of a tally are those that the definitions name

of_each_kind : (P : Entry → Type 0) → ((i p q c : ℕ) → P (LineOf i p q c)) → ((i n c : ℕ) → P (EndOf i n c)) → ((i c : ℕ) → P (ResetOf i c)) → P Closing
    → (e : Entry) → P e
of_each_kind P line end reset closing (LineOf i p q c) = line i p q c
of_each_kind P line end reset closing (EndOf i n c) = end i n c
of_each_kind P line end reset closing (ResetOf i c) = reset i c
of_each_kind P line end reset closing Closing = closing

-- a part that a record changes by itself
folded : {X : Type 0} (part : Tally → X) (step : X → Entry → X) → ((e : Entry) (t : Tally) → part (after t e) ≡ step (part t) e)
    → (t : Tally) (es : List Entry) → part (tally t es) ≡ fold step (part t) es
folded part step each t [] = refl
folded part step each t (e ∷ es) = folded part step each (after t e) es ∙ ap (λ z. fold step z es) (each e t)

-- a part that a record adds to
summed : (part : Tally → ℕ) (amount : Entry → ℕ) → ((e : Entry) (t : Tally) → part (after t e) ≡ part t + amount e)
    → (t : Tally) (es : List Entry) → part (tally t es) ≡ part t + sum_by amount es
summed part amount each t [] = omega arith
summed part amount each t (e ∷ es) = omega (arith, summed part amount each (after t e) es, each e t, sum_by-cons amount e es)

or_false : (b : Bool) → (b || false) ≡ b
or_false true = refl
or_false false = refl

or_grouped : (a b c : Bool) → ((a || b) || c) ≡ (a || (b || c))
or_grouped true b c = refl
or_grouped false b c = refl

or_true : (b : Bool) → true ≡ (b || true)
or_true true = refl
or_true false = refl

-- a part that says whether there was such a record
told : (part : Tally → Bool) (is : Entry → Bool) → ((e : Entry) (t : Tally) → part (after t e) ≡ (part t || is e))
    → (t : Tally) (es : List Entry) → part (tally t es) ≡ (part t || list_any is es)
told part is each t [] = sym (or_false (part t))
told part is each t (e ∷ es) = told part is each (after t e) es ∙ ap (λ z. z || list_any is es) (each e t) ∙ or_grouped (part t) (is e) (list_any is es)

pub figure_is : (t : Tally) (es : List Entry) → (tally t es).figure ≡ fold figure_after t.figure es
figure_is = folded (λ t. t.figure) figure_after (of_each_kind _ (λ i p q c t. refl) (λ i n c t. refl) (λ i c t. refl) (λ t. refl))

pub next_is : (t : Tally) (es : List Entry) → (tally t es).next ≡ fold next_after t.next es
next_is = folded (λ t. t.next) next_after (of_each_kind _ (λ i p q c t. refl) (λ i n c t. refl) (λ i c t. refl) (λ t. refl))

pub closed_is : (t : Tally) (es : List Entry) → (tally t es).closed ≡ t.closed + sum_by closed_of es
closed_is = summed (λ t. t.closed) closed_of (of_each_kind _ (λ i p q c t. omega arith) (λ i n c t. omega arith) (λ i c t. refl) (λ t. omega arith))

pub lines_is : (t : Tally) (es : List Entry) → (tally t es).lines ≡ t.lines + count_by is_line es
lines_is = summed (λ t. t.lines) (λ e. cond (is_line e) 1 0) (of_each_kind _ (λ i p q c t. refl) (λ i n c t. omega arith) (λ i c t. omega arith)
    (λ t. omega arith))

pub anew_is : (t : Tally) (es : List Entry) → (tally t es).anew ≡ (t.anew || list_any is_reset es)
anew_is = told (λ t. t.anew) is_reset
    (of_each_kind _ (λ i p q c t. sym (or_false t.anew)) (λ i n c t. sym (or_false t.anew)) (λ i c t. or_true t.anew) (λ t. sym (or_false t.anew)))

pub ended_is : (t : Tally) (es : List Entry) → (tally t es).ended ≡ (t.ended || list_any is_end es)
ended_is = told (λ t. t.ended) is_end
    (of_each_kind _ (λ i p q c t. sym (or_false t.ended)) (λ i n c t. or_true t.ended) (λ i c t. sym (or_false t.ended)) (λ t. sym (or_false t.ended)))

-- ---- what may come next

pub record LineGoesOn (form : LaneForm) (i : FormItem) (t : Tally) (period quantity cumulative : ℕ) : Type 0 where
  pub unended : t.ended ≡ false
  pub inside : period < form.horizon
  pub rises : form.rising ≡ true → t.next ≤ period
  pub some : 1 ≤ quantity
  pub figure : cumulative ≡ t.figure + quantity
  pub small : cumulative + t.closed ≤ MOST
  pub side : t.anew ≡ is_anew i.reset period

pub record EndGoesOn (i : FormItem) (t : Tally) (lines cumulative : ℕ) : Type 0 where
  pub unended : t.ended ≡ false
  pub count : lines ≡ t.lines
  pub figure : cumulative ≡ t.figure
  pub side : is_some i.reset ≡ true → t.anew ≡ true

pub record ResetGoesOn (i : FormItem) (t : Tally) (closed : ℕ) : Type 0 where
  pub unended : t.ended ≡ false
  pub awaited : is_some i.reset ≡ true
  pub first : t.anew ≡ false
  pub figure : closed ≡ t.figure

abbrev pub OwnGoesOn : LaneForm → FormItem → Tally → Entry → Type 0
OwnGoesOn form i t (LineOf item period quantity cumulative) = LineGoesOn form i t period quantity cumulative
OwnGoesOn form i t (EndOf item lines cumulative) = EndGoesOn i t lines cumulative
OwnGoesOn form i t (ResetOf item closed) = ResetGoesOn i t closed
OwnGoesOn form i t Closing = ⊥

-- each record goes on from those before it
abbrev pub OwnForm : LaneForm → FormItem → Tally → List Entry → Type 0
OwnForm form i t [] = Unit {0}
OwnForm form i t (e ∷ es) = OwnGoesOn form i t e × OwnForm form i (after t e) es

pub own_at : (form : LaneForm) (i : FormItem) (t : Tally) (xs ys : List Entry) (e : Entry) → OwnForm form i t (xs ++ e ∷ ys) → OwnGoesOn form i (tally t xs) e
own_at form i t [] ys e h = h.0
own_at form i t (x ∷ xs) ys e h = own_at form i (after t x) xs ys e h.1
