-- The book: its tests, of which none holds of a record exactly where it continues the list.
use Rattle.std.proofs.Common.{◌≡◌, ◌≢◌, ℕ, ◌+◌, ◌≤◌, ◌==◌, Bool, true, false, cond, not, ◌||◌, ◌&&◌, Some, None, Option, List, [], ◌∷◌, ◌++◌, inl, inr, refl}
use Rattle.std.proofs.Common.{sym, ◌∙◌, ap, subst, length, map, arith}
use Rattle.std.specs.Prelude.{nat_lt, nat_le, is_some, option_map, IsSomeAnd}
use Rattle.std.specs.List.{All, find, list_all}
use Rattle.std.proofs.lemmas.Bool.{cases_Bool, eq-eqb, eqb-true, eqb-false, ne_eqb, and_left, and_right, and_cases, and_from, and_parts, not_from_true}
use Rattle.std.proofs.lemmas.Bool.{not-false, or_from, or_parts, both_ways, false≢true, true≢false, ltb-false, le-ltb, leb-false, lt-leb}
use Rattle.std.proofs.lemmas.List.Elements.{All-head, All-tail, All-nil, All-cons}
use Rattle.mrp_qty.specs.declared.quantity.TheConstants.{MOST}
use Rattle.mrp_record.specs.declared.record.Record.{Record}
use Rattle.mrp_record.specs.declared.record.Record.TheVariants.{Line, ItemEnd, Reset, Close}
use Rattle.mrp_record.specs.Entries.{Entry, number_of, content, contents, is_ended}
use Rattle.mrp_record.specs.Form.{FormItem, LaneForm, item_on, is_other_open, is_anew, GoesOn, LineFits, EndFits, ResetFits, EntryFits, Continues, IsInForm}
use Rattle.mrp_record.proofs.FormItems.{item_is}
use Rattle.mrp_book.specs.declared.item.ItemFigure.{ItemFigure}
use Rattle.mrp_book.specs.Faults.{Test, first_of, number_tests, tests_of_item, find_item, is_other_begun, line_tests, end_tests, reset_tests, own_tests}
use Rattle.mrp_book.specs.Faults.{first_fault}
use Rattle.mrp_book.specs.Figures.{figures, figure_of, begun}
use Rattle.mrp_book.specs.Laws.{NoFaultIsInForm}
use Rattle.mrp_book.proofs.Following.{begun_agrees, in_form_push, in_form_last}
use Rattle.mrp_book.proofs.Turns.{NoneHolds, none_holds}

-- ---- tables of tests

none_from : (ts : List Test) → NoneHolds ts → first_of ts ≡ None
none_from [] h = refl
none_from (t ∷ ts) h = let no : t.holds ≡ false = h.0 in rw no (none_from ts h.1)

none_parts : (xs ys : List Test) → NoneHolds (xs ++ ys) → NoneHolds xs × NoneHolds ys
none_parts [] ys h = (tt, h)
none_parts (x ∷ xs) ys h = let later = none_parts xs ys h.1 in ((h.0, later.0), later.1)

none_append : (xs ys : List Test) → NoneHolds xs → NoneHolds ys → NoneHolds (xs ++ ys)
none_append [] ys h g = g
none_append (x ∷ xs) ys h g = (h.0, none_append xs ys h.1 g)

-- ---- one item

pub find_figure : (es : List Entry) (items : List FormItem) (item : ℕ)
    → find_item (map (figure_of es) items) item ≡ option_map (figure_of es) (find (λ i. i.item == item) items)
find_figure es [] item = refl
find_figure es (i ∷ items) item =
    elim (cases_Bool (i.item == item)) [
      | inl own ↦ rw own refl
      | inr apart ↦ rw apart (find_figure es items item)
    ]

record IsFree (form : LaneForm) (es : List Entry) (item : ℕ) (tests : ItemFigure → List Test) : Type 0 where
  i : FormItem
  found : item_on form item ≡ Some i
  goes : GoesOn form i es
  own : NoneHolds (tests (figure_of es i))

free_item : (form : LaneForm) (records : List Record) → IsInForm form records → (item : ℕ) (tests : ItemFigure → List Test)
    → NoneHolds (tests_of_item (find_item (map (figure_of (contents records)) form.items) item) (begun (contents records)) item tests)
    → IsFree form (contents records) item tests
free_item form records h item tests none =
    let es = contents records in
    by (item_on form item) refl (subst (λ (o : Option ItemFigure). NoneHolds (tests_of_item o (begun es) item tests)) (find_figure es form.items item) none)
  where
    by : (o : Option FormItem) → item_on form item ≡ o → NoneHolds
        (tests_of_item (option_map (figure_of (contents records)) o) (begun (contents records)) item tests) → IsFree form (contents records) item tests
    by None e n = absurd (true≢false n.0)
    by (Some i) e n =
        let es = contents records in
        let parts = or_parts (is_ended i.item es) (is_other_begun (begun es) item) n.0 in
        let same : i.item ≡ item = item_is form.items item i e in
        let alone : is_other_open form i.item es ≡ false = ap (λ (k : ℕ). is_other_open form k es) same ∙ sym (begun_agrees form records h item) ∙ parts.1 in
        record { i = i; found = e; goes = record { unended = parts.0; alone = alone }; own = n.1 }

item_free : (form : LaneForm) (records : List Record) → IsInForm form records → (item : ℕ) (tests : ItemFigure → List Test)
    → (i : FormItem) → item_on form item ≡ Some i → GoesOn form i (contents records) → NoneHolds (tests (figure_of (contents records) i))
    → NoneHolds (tests_of_item (find_item (map (figure_of (contents records)) form.items) item) (begun (contents records)) item tests)
item_free form records h item tests i e goes own =
    let es = contents records in
    let same : i.item ≡ item = item_is form.items item i e in
    let figure : find_item (map (figure_of es) form.items) item ≡ Some (figure_of es i) = find_figure es form.items item ∙ ap (option_map (figure_of es)) e in
    let alone : is_other_begun (begun es) item ≡ false = begun_agrees form records h item ∙ ap (λ (k : ℕ). is_other_open form k es) (sym same) ∙ goes.alone in
    let turn : (is_ended i.item es || is_other_begun (begun es) item) ≡ false =
    or_from (is_ended i.item es) (is_other_begun (begun es) item) goes.unended alone in
    subst (λ (o : Option ItemFigure). NoneHolds (tests_of_item o (begun es) item tests)) (sym figure) (turn, own)

-- ---- lines

side_is : (w a : Bool) → cond w (not a) a ≡ false → w ≡ a
side_is true true e = refl
side_is true false e = absurd (true≢false e)
side_is false true e = absurd (true≢false e)
side_is false false e = refl

side_from : (w a : Bool) → w ≡ a → cond w (not a) a ≡ false
side_from true true e = refl
side_from true false e = absurd (true≢false e)
side_from false true e = absurd (false≢true e)
side_from false false e = refl

line_fits : (form : LaneForm) (i : FormItem) (es : List Entry) (number p q c : ℕ)
    → NoneHolds (line_tests form.rising form.horizon number p q c (figure_of es i)) → LineFits form i es p q c × number ≤ MOST
line_fits form i es number p q c n =
    let g = figure_of es i in
    let period = or_parts (nat_le form.horizon p) (form.rising && nat_lt p g.next_period) n.0 in
    let quantity : q ≢ 0 = eqb-false q 0 n.1.0 in
    let sizes = or_parts (nat_lt MOST number) (nat_lt MOST (c + g.closed)) n.1.1.1.0 in
    let fits : LineFits form i es p q c = record {
      inside = leb-false form.horizon p period.0;
      rises = λ r. elim (and_cases form.rising (nat_lt p g.next_period) period.1) [
        | inl flat ↦ absurd (both_ways form.rising flat r)
        | inr late ↦ ltb-false p g.next_period late
      ];
      some = omega arith;
      figure = eqb-true c (g.figure + q) (not-false (c == g.figure + q) n.1.1.0);
      small = ltb-false MOST (c + g.closed) sizes.1;
      side = side_is g.was_reset (is_anew i.reset p) n.1.1.1.1.0;
    } in
    (fits, ltb-false MOST number sizes.0)

line_free : (form : LaneForm) (i : FormItem) (es : List Entry) (number p q c : ℕ) → LineFits form i es p q c → number ≤ MOST
    → NoneHolds (line_tests form.rising form.horizon number p q c (figure_of es i))
line_free form i es number p q c f small =
    let g = figure_of es i in
    let rises : (form.rising && nat_lt p g.next_period) ≡ false =
    elim (cases_Bool form.rising) [
      | inl r ↦ and_right form.rising (nat_lt p g.next_period) (le-ltb p g.next_period (f.rises r))
      | inr flat ↦ and_left form.rising (nat_lt p g.next_period) flat
    ] in
    let quantity : q ≢ 0 = λ e. absurd (omega (arith, f.some)) in (
      or_from (nat_le form.horizon p) (form.rising && nat_lt p g.next_period) (lt-leb form.horizon p f.inside) rises,
      (
        ne_eqb q 0 quantity,
        (
          not_from_true (c == g.figure + q) (eq-eqb c (g.figure + q) f.figure),
          (
            or_from (nat_lt MOST number) (nat_lt MOST (c + g.closed)) (le-ltb MOST number small) (le-ltb MOST (c + g.closed) f.small),
            (side_from g.was_reset (is_anew i.reset p) f.side, tt),
          ),
        ),
      ),
    )

-- ---- item ends and resets

missing_is : (o w : Bool) → (o && not w) ≡ false → o ≡ true → w ≡ true
missing_is true true e h = refl
missing_is true false e h = absurd (true≢false e)
missing_is false w e h = absurd (false≢true h)

missing_from : (o w : Bool) → (o ≡ true → w ≡ true) → (o && not w) ≡ false
missing_from true w h = let is : w ≡ true = h refl in rw is refl
missing_from false w h = refl

end_fits : (i : FormItem) (es : List Entry) (number n c : ℕ) → NoneHolds (end_tests number n c (figure_of es i)) → EndFits i es n c × number ≤ MOST
end_fits i es number n c h =
    let g = figure_of es i in
    let parts = or_parts (not (n == g.lines)) (not (c == g.figure)) h.1.0 in
    let fits : EndFits i es n c = record {
      count = eqb-true n g.lines (not-false (n == g.lines) parts.0);
      figure = eqb-true c g.figure (not-false (c == g.figure) parts.1);
      side = missing_is (is_some i.reset) g.was_reset h.1.1.0;
    } in
    (fits, ltb-false MOST number h.0)

end_free : (i : FormItem) (es : List Entry) (number n c : ℕ) → EndFits i es n c → number ≤ MOST → NoneHolds (end_tests number n c (figure_of es i))
end_free i es number n c f small =
    let g = figure_of es i in (
      le-ltb MOST number small,
      (
        or_from (not (n == g.lines)) (not (c == g.figure)) (not_from_true (n == g.lines) (eq-eqb n g.lines f.count))
            (not_from_true (c == g.figure) (eq-eqb c g.figure f.figure)),
        (missing_from (is_some i.reset) g.was_reset f.side, tt),
      ),
    )

reset_fits : (i : FormItem) (es : List Entry) (number c : ℕ) → NoneHolds (reset_tests number c (figure_of es i)) → ResetFits i es c × number ≤ MOST
reset_fits i es number c h =
    let g = figure_of es i in
    let parts = or_parts (not (is_some i.reset)) (g.was_reset || not (c == g.figure)) h.1.0 in
    let others = or_parts g.was_reset (not (c == g.figure)) parts.1 in
    let fits : ResetFits i es c = record {
      awaited = not-false (is_some i.reset) parts.0;
      first = others.0;
      figure = eqb-true c g.figure (not-false (c == g.figure) others.1);
    } in
    (fits, ltb-false MOST number h.0)

reset_free : (i : FormItem) (es : List Entry) (number c : ℕ) → ResetFits i es c → number ≤ MOST → NoneHolds (reset_tests number c (figure_of es i))
reset_free i es number c f small =
    let g = figure_of es i in (
      le-ltb MOST number small,
      (
        or_from (not (is_some i.reset)) (g.was_reset || not (c == g.figure)) (not_from_true (is_some i.reset) f.awaited)
            (or_from g.was_reset (not (c == g.figure)) f.first (not_from_true (c == g.figure) (eq-eqb c g.figure f.figure))),
        tt,
      ),
    )

-- ---- the closing record

all_ended : (es : List Entry) (items : List FormItem) → list_all (λ g. g.ended) (map (figure_of es) items) ≡ true → All (λ i. is_ended i.item es ≡ true) items
all_ended es [] h = All-nil (λ (i : FormItem). is_ended i.item es ≡ true)
all_ended es (i ∷ items) h =
    let parts = and_parts (is_ended i.item es) (list_all (λ (g : ItemFigure). g.ended) (map (figure_of es) items)) h in
    All-cons (λ (i : FormItem). is_ended i.item es ≡ true) i items parts.0 (all_ended es items parts.1)

ended_all : (es : List Entry) (items : List FormItem) → All (λ i. is_ended i.item es ≡ true) items → list_all (λ g. g.ended) (map (figure_of es) items) ≡ true
ended_all es [] h = refl
ended_all es (i ∷ items) h =
    and_from (is_ended i.item es) (list_all (λ (g : ItemFigure). g.ended) (map (figure_of es) items))
    (All-head (λ (i : FormItem). is_ended i.item es ≡ true) i items h)
    (ended_all es items (All-tail (λ (i : FormItem). is_ended i.item es ≡ true) i items h))

-- ---- all records

own_fits : (form : LaneForm) (records : List Record) → IsInForm form records → (r : Record) → NoneHolds (own_tests (figures form records) r)
    → EntryFits form (contents records) (content r) × number_of r ≤ MOST
own_fits form records h (Line number item p q c) none =
    let es = contents records in
    let free = free_item form records h item.0 (line_tests form.rising form.horizon number p q c) none in
    let fits = line_fits form free.i es number p q c free.own in
    (subst (λ (o : Option FormItem). IsSomeAnd o (λ i. GoesOn form i es × LineFits form i es p q c)) (sym free.found) (free.goes, fits.0), fits.1)
own_fits form records h (ItemEnd number item n c) none =
    let es = contents records in
    let free = free_item form records h item.0 (end_tests number n c) none in
    let fits = end_fits free.i es number n c free.own in
    (subst (λ (o : Option FormItem). IsSomeAnd o (λ i. GoesOn form i es × EndFits i es n c)) (sym free.found) (free.goes, fits.0), fits.1)
own_fits form records h (Reset number item c) none =
    let es = contents records in
    let free = free_item form records h item.0 (reset_tests number c) none in
    let fits = reset_fits free.i es number c free.own in
    (subst (λ (o : Option FormItem). IsSomeAnd o (λ i. GoesOn form i es × ResetFits i es c)) (sym free.found) (free.goes, fits.0), fits.1)
own_fits form records h (Close number) none =
    let es = contents records in
    (all_ended es form.items (not-false (list_all (λ (g : ItemFigure). g.ended) (map (figure_of es) form.items)) none.1.0), ltb-false MOST number none.0)

own_free : (form : LaneForm) (records : List Record) → IsInForm form records → (r : Record) → EntryFits form (contents records) (content r) → number_of r ≤ MOST
    → NoneHolds (own_tests (figures form records) r)
own_free form records h (Line number item p q c) fits small = by (item_on form item.0) refl fits
  where
    by : (o : Option FormItem) → item_on form item.0 ≡ o → IsSomeAnd o (λ i. GoesOn form i (contents records) × LineFits form i (contents records) p q c)
        → NoneHolds (own_tests (figures form records) (Line number item p q c))
    by None e f = absurd f
    by (Some i) e f =
        item_free form records h item.0 (line_tests form.rising form.horizon number p q c) i e f.0 (line_free form i (contents records) number p q c f.1 small)
own_free form records h (ItemEnd number item n c) fits small = by (item_on form item.0) refl fits
  where
    by : (o : Option FormItem) → item_on form item.0 ≡ o → IsSomeAnd o (λ i. GoesOn form i (contents records) × EndFits i (contents records) n c)
        → NoneHolds (own_tests (figures form records) (ItemEnd number item n c))
    by None e f = absurd f
    by (Some i) e f = item_free form records h item.0 (end_tests number n c) i e f.0 (end_free i (contents records) number n c f.1 small)
own_free form records h (Reset number item c) fits small = by (item_on form item.0) refl fits
  where
    by : (o : Option FormItem) → item_on form item.0 ≡ o → IsSomeAnd o (λ i. GoesOn form i (contents records) × ResetFits i (contents records) c)
        → NoneHolds (own_tests (figures form records) (Reset number item c))
    by None e f = absurd f
    by (Some i) e f = item_free form records h item.0 (reset_tests number c) i e f.0 (reset_free i (contents records) number c f.1 small)
own_free form records h (Close number) fits small =
    let es = contents records in
    (le-ltb MOST number small, (not_from_true (list_all (λ (g : ItemFigure). g.ended) (map (figure_of es) form.items)) (ended_all es form.items fits), tt))

pub continues : (form : LaneForm) (records : List Record) → IsInForm form records → (r : Record) → first_fault (figures form records) r ≡ None
    → Continues form records r
continues form records h r e =
    let book = figures form records in
    let tests = number_tests book (number_of r) in
    let parts = none_parts tests (own_tests book r) (none_holds (tests ++ own_tests book r) e) in
    let fits = own_fits form records h r parts.1 in
    record {
      number = omega (arith, ltb-false (number_of r) (length records + 1) parts.0.0, ltb-false (length records + 1) (number_of r) parts.0.1.0);
      small = fits.1;
      unclosed = parts.0.1.1.0;
      fits = fits.0;
    }

pub no_fault : (form : LaneForm) (records : List Record) → IsInForm form records → (r : Record) → Continues form records r
    → first_fault (figures form records) r ≡ None
no_fault form records h r c =
    let book = figures form records in
    let tests = number_tests book (number_of r) in
    let number : NoneHolds tests = (
      le-ltb (number_of r) (length records + 1) (omega (arith, c.number)),
      (le-ltb (length records + 1) (number_of r) (omega (arith, c.number)), (c.unclosed, tt)),
    ) in
    none_from (tests ++ own_tests book r) (none_append tests (own_tests book r) number (own_free form records h r c.fits c.small))

pub no_fault_is_in_form : NoFaultIsInForm
no_fault_is_in_form form lane records h r =
    ((λ e. in_form_push form records r h (continues form records h r e)), (λ g. no_fault form records h r (in_form_last form records r g)))
