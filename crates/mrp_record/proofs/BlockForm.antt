-- Records of a lane: the block of a small load is in form, record by record.
use Rattle.std.proofs.Common.{◌≡◌, ℕ, ◌+◌, ◌<◌, ◌≤◌, Bool, true, false, cond, ltb, suc, ◌||◌, Some, None, Option, List, [], ◌∷◌, ◌++◌, inl, inr, refl, sym, ◌∙◌}
use Rattle.std.proofs.Common.{ap, subst, length, get_or, append_assoc, length-append, arith}
use Rattle.std.specs.List.{All, AllPairs, fold, list_any, sum_by, count_by}
use Rattle.std.specs.List.Sorted.{IsNonDecreasingBy}
use Rattle.std.proofs.lemmas.Bool.{cases_Bool, ltb-true, ltb-false, le-leb, lt-leb, false≢true}
use Rattle.std.proofs.lemmas.List.{get_or_append_left, get_or-append-add}
use Rattle.std.proofs.lemmas.List.Elements.{All-nil, All-cons, All-head, All-tail}
use Rattle.std.proofs.lemmas.List.Sums.{sum_by-cons, sum_by-append}
use Rattle.mrp_qty.specs.declared.quantity.TheConstants.{MOST}
use Rattle.mrp_record.specs.Entries.{Entry, LineOf, EndOf, ResetOf, Delivery, is_end, figure_after, closed_of}
use Rattle.mrp_record.specs.Blocks.{is_line, is_reset, next_after}
use Rattle.mrp_record.specs.Form.{FormItem, LaneForm, is_anew}
use Rattle.mrp_record.specs.Laws.{IsSmall, form_item}
use Rattle.mrp_record.specs.Text.{Load, total, running, early, late, block}
use Rattle.mrp_record.proofs.Running.{early-append-late, running_unended}
use Rattle.mrp_record.proofs.Tallies.{Tally, after, tally, start, LineGoesOn, EndGoesOn, ResetGoesOn, OwnForm, figure_is, closed_is, lines_is, next_is, anew_is}
use Rattle.mrp_record.proofs.Tallies.{ended_is}

-- ---- totals

-- each line moves something
pub length_within : (lines : List Delivery) → All (λ line. 1 ≤ line.quantity) lines → length lines ≤ total lines
length_within [] some = omega arith
length_within (line ∷ lines) some =
    let P = λ (d : Delivery). 1 ≤ d.quantity in
    let first : 1 ≤ line.quantity = All-head P line lines some in
    omega (arith, sum_by-cons (λ (d : Delivery). d.quantity) line lines, first, length_within lines (All-tail P line lines some))

-- ---- running totals

pub figure_running : (item first figure : ℕ) (lines : List Delivery) → fold figure_after figure (running item first lines) ≡ figure + total lines
figure_running item first figure [] = omega arith
figure_running item first figure (line ∷ lines) =
    omega (arith, figure_running item (first + line.quantity) (figure + line.quantity) lines, sum_by-cons (λ (l : Delivery). l.quantity) line lines)

pub closed_running : (item first : ℕ) (lines : List Delivery) → sum_by closed_of (running item first lines) ≡ 0
closed_running item first [] = refl
closed_running item first (line ∷ lines) =
    omega (
      arith,
      closed_running item (first + line.quantity) lines,
      sum_by-cons closed_of (LineOf item line.period line.quantity (first + line.quantity))
          (running item (first + line.quantity) lines),
    )

pub lines_running : (item first : ℕ) (lines : List Delivery) → count_by is_line (running item first lines) ≡ length lines
lines_running item first [] = refl
lines_running item first (line ∷ lines) =
    omega (
      arith,
      lines_running item (first + line.quantity) lines,
      sum_by-cons (λ (e : Entry). cond (is_line e) 1 0)
          (LineOf item line.period line.quantity (first + line.quantity)) (running item (first + line.quantity) lines),
    )

pub next_running : (item first next : ℕ) (lines : List Delivery)
    → fold next_after next (running item first lines) ≡ fold (λ (n : ℕ) (l : Delivery). l.period + 1) next lines
next_running item first next [] = refl
next_running item first next (line ∷ lines) = next_running item (first + line.quantity) (line.period + 1) lines

pub never_reset : (item first : ℕ) (lines : List Delivery) → list_any is_reset (running item first lines) ≡ false
never_reset item first [] = refl
never_reset item first (line ∷ lines) = never_reset item (first + line.quantity) lines

-- ---- conditions on deliveries

all_front : (P : Delivery → Type 0) (xs ys : List Delivery) → All P (xs ++ ys) → All P xs
all_front P xs ys h k d l = subst P (get_or_append_left xs ys d k l) (h k d (omega (arith, length-append xs ys)))

all_back : (P : Delivery → Type 0) (xs ys : List Delivery) → All P (xs ++ ys) → All P ys
all_back P xs ys h k d l = subst P (get_or-append-add xs ys k d) (h (length xs + k) d (omega (arith, length-append xs ys)))

-- periods rise from one on
abbrev pub RisesFrom : ℕ → List Delivery → Type 0
RisesFrom next [] = Unit {0}
RisesFrom next (line ∷ lines) = (next ≤ line.period) × RisesFrom (line.period + 1) lines

abbrev pub next_of : ℕ → List Delivery → ℕ
next_of next lines = fold (λ (n : ℕ) (l : Delivery). l.period + 1) next lines

rises_front : (next : ℕ) (xs ys : List Delivery) → RisesFrom next (xs ++ ys) → RisesFrom next xs
rises_front next [] ys h = tt
rises_front next (x ∷ xs) ys h = (h.0, rises_front (x.period + 1) xs ys h.1)

rises_back : (next : ℕ) (xs ys : List Delivery) → RisesFrom next (xs ++ ys) → RisesFrom (next_of next xs) ys
rises_back next [] ys h = h
rises_back next (x ∷ xs) ys h = rises_back (x.period + 1) xs ys h.1

rises_from : (next : ℕ) (lines : List Delivery) → AllPairs (λ a b. a.period < b.period) lines → All (λ l. next ≤ l.period) lines → RisesFrom next lines
rises_from next [] apart above = tt
rises_from next (line ∷ lines) apart above =
    let beyond : All (λ (l : Delivery). line.period + 1 ≤ l.period) lines = λ k d l. omega (arith, apart 0 (suc k) d (omega arith) (omega arith)) in
    let tails : AllPairs (λ (a b : Delivery). a.period < b.period) lines = λ i j d low l. apart (suc i) (suc j) d (omega arith) (omega arith) in
    (All-head (λ (l : Delivery). next ≤ l.period) line lines above, rises_from (line.period + 1) lines tails beyond)

early_side : (from : ℕ) (lines : List Delivery) → All (λ l. is_anew (Some from) l.period ≡ false) (early from lines)
early_side from [] = All-nil (λ (l : Delivery). is_anew (Some from) l.period ≡ false)
early_side from (line ∷ lines) =
    let P = λ (l : Delivery). is_anew (Some from) l.period ≡ false in
    elim (cases_Bool (ltb line.period from)) [
      | inl before ↦
          let here : is_anew (Some from) line.period ≡ false = lt-leb from line.period (ltb-true line.period from before) in
          rw before (All-cons P line (early from lines) here (early_side from lines))
      | inr past ↦ rw past (All-nil P)
    ]

late_side : (from : ℕ) (lines : List Delivery) → IsNonDecreasingBy (λ l. l.period) lines → All (λ l. is_anew (Some from) l.period ≡ true) (late from lines)
late_side from [] order = All-nil (λ (l : Delivery). is_anew (Some from) l.period ≡ true)
late_side from (line ∷ lines) order =
    let P = λ (l : Delivery). is_anew (Some from) l.period ≡ true in
    elim (cases_Bool (ltb line.period from)) [
      | inl before ↦ rw before (late_side from lines (λ i j d low l. order (suc i) (suc j) d (omega arith) (omega arith)))
      | inr past ↦
          let reached : from ≤ line.period = ltb-false line.period from past in
          let all : All P (line ∷ lines) = λ k d l. le-leb from (get_or (line ∷ lines) k d).period (omega (arith, order 0 k d (omega arith) l)) in
          rw past all
    ]

-- ---- a run of lines, and then the rest

record LinesFit (form : LaneForm) (i : FormItem) (t : Tally) (lines : List Delivery) : Type 0 where
  unended : t.ended ≡ false
  inside : All (λ l. l.period < form.horizon) lines
  some : All (λ l. 1 ≤ l.quantity) lines
  rises : form.rising ≡ true → RisesFrom t.next lines
  side : All (λ l. is_anew i.reset l.period ≡ t.anew) lines
  small : t.figure + total lines + t.closed ≤ MOST

run_fits : (form : LaneForm) (i : FormItem) (item : ℕ) (t : Tally) (lines : List Delivery) (rest : List Entry) → LinesFit form i t lines
    → OwnForm form i (tally t (running item t.figure lines)) rest → OwnForm form i t (running item t.figure lines ++ rest)
run_fits form i item t [] rest h then = then
run_fits form i item t (line ∷ lines) rest h then =
    let sum = sum_by-cons (λ (l : Delivery). l.quantity) line lines in
    let here : LineGoesOn form i t line.period line.quantity (t.figure + line.quantity) = record {
      unended = h.unended;
      inside = All-head (λ (l : Delivery). l.period < form.horizon) line lines h.inside;
      rises = λ r. (h.rises r).0;
      some = All-head (λ (l : Delivery). 1 ≤ l.quantity) line lines h.some;
      figure = refl;
      small = omega (arith, h.small, sum);
      side = sym (All-head (λ (l : Delivery). is_anew i.reset l.period ≡ t.anew) line lines h.side);
    } in
    let t' = after t (LineOf item line.period line.quantity (t.figure + line.quantity)) in
    let others : LinesFit form i t' lines = record {
      unended = h.unended;
      inside = All-tail (λ (l : Delivery). l.period < form.horizon) line lines h.inside;
      some = All-tail (λ (l : Delivery). 1 ≤ l.quantity) line lines h.some;
      rises = λ r. (h.rises r).1;
      side = All-tail (λ (l : Delivery). is_anew i.reset l.period ≡ t.anew) line lines h.side;
      small = omega (arith, h.small, sum);
    } in
    (here, run_fits form i item t' lines rest others then)

no_side : (lines : List Delivery) → All (λ l. is_anew None l.period ≡ false) lines
no_side lines k d l = refl

unbroken : (rising : Bool) (horizon : ℕ) (items : List FormItem) (item opening : ℕ) (lines : List Delivery)
    → IsSmall rising horizon (record { item = item; opening = opening; reset = None; lines = lines })
    → OwnForm (record { rising = rising; horizon = horizon; items = items }) (record { item = item; opening = opening; reset = None }) (start opening)
    (running item opening lines ++ EndOf item (length lines) (opening + total lines) ∷ [])
unbroken rising horizon items item opening lines small =
    let form : LaneForm = record { rising = rising; horizon = horizon; items = items } in
    let i : FormItem = record { item = item; opening = opening; reset = None } in
    let t = start opening in
    let fit : LinesFit form i t lines = record {
      unended = refl;
      inside = small.inside;
      some = small.some;
      rises = λ r. rises_from 0 lines (small.rises r) (λ k d l. omega arith);
      side = no_side lines;
      small = omega (arith, small.figures);
    } in
    let run = running item opening lines in
    let last : EndGoesOn i (tally t run) (length lines) (opening + total lines) = record {
      unended = ended_is t run ∙ running_unended item opening lines;
      count = omega (arith, lines_is t run, lines_running item opening lines);
      figure = sym (figure_is t run ∙ figure_running item opening opening lines);
      side = λ e. absurd (false≢true e);
    } in
    run_fits form i item t lines (EndOf item (length lines) (opening + total lines) ∷ []) fit (last, tt)

broken : (rising : Bool) (horizon : ℕ) (items : List FormItem) (item opening from : ℕ) (lines : List Delivery)
    → IsSmall rising horizon (record { item = item; opening = opening; reset = Some from; lines = lines })
    → OwnForm (record { rising = rising; horizon = horizon; items = items }) (record { item = item; opening = opening; reset = Some from }) (start opening)
    (running item opening (early from lines)
    ++ ResetOf item (opening + total (early from lines)) ∷ (running item 0 (late from lines) ++ EndOf item (length lines) (total (late from lines)) ∷ []))
broken rising horizon items item opening from lines small =
    let form : LaneForm = record { rising = rising; horizon = horizon; items = items } in
    let i : FormItem = record { item = item; opening = opening; reset = Some from } in
    let t = start opening in
    let first = early from lines in
    let second = late from lines in
    let whole = early-append-late from lines in
    let inside : All (λ (l : Delivery). l.period < horizon) (first ++ second) =
    subst (λ (z : List Delivery). All (λ l. l.period < horizon) z) (sym whole) small.inside in
    let some : All (λ (l : Delivery). 1 ≤ l.quantity) (first ++ second) = subst (λ (z : List Delivery). All (λ l. 1 ≤ l.quantity) z) (sym whole) small.some in
    let sums : total first + total second ≡ total lines = sym (sum_by-append (λ (l : Delivery). l.quantity) first second) ∙ ap total whole in
    let rising_all : rising ≡ true → RisesFrom 0 (first ++ second) =
    λ r. subst (RisesFrom 0) (sym whole) (rises_from 0 lines (small.rises r) (λ k d l. omega arith)) in
    let run = running item opening first in
    let fit : LinesFit form i t first = record {
      unended = refl;
      inside = all_front (λ (l : Delivery). l.period < horizon) first second inside;
      some = all_front (λ (l : Delivery). 1 ≤ l.quantity) first second some;
      rises = λ r. rises_front 0 first second (rising_all r);
      side = early_side from lines;
      small = omega (arith, small.figures, sums);
    } in
    let t1 = tally t run in
    let unended : t1.ended ≡ false = ended_is t run ∙ running_unended item opening first in
    let reached : t1.figure ≡ opening + total first = figure_is t run ∙ figure_running item opening opening first in
    let nothing : t1.closed ≡ 0 = omega (arith, closed_is t run, closed_running item opening first) in
    let resets : ResetGoesOn i t1 (opening + total first) = record {
      unended = unended;
      awaited = refl;
      first = anew_is t run ∙ never_reset item opening first;
      figure = sym reached;
    } in
    let t2 = after t1 (ResetOf item (opening + total first)) in
    let next : t2.next ≡ next_of 0 first = next_is t run ∙ next_running item opening 0 first in
    let anew = running item 0 second in
    let later : LinesFit form i t2 second = record {
      unended = unended;
      inside = all_back (λ (l : Delivery). l.period < horizon) first second inside;
      some = all_back (λ (l : Delivery). 1 ≤ l.quantity) first second some;
      rises = λ r. subst (λ (n : ℕ). RisesFrom n second) (sym next) (rises_back 0 first second (rising_all r));
      side = late_side from lines (small.order refl);
      small = omega (arith, small.figures, sums, nothing);
    } in
    let last : EndGoesOn i (tally t2 anew) (length lines) (total second) = record {
      unended = ended_is t2 anew ∙ ap (λ (b : Bool). b || list_any is_end anew) unended ∙ running_unended item 0 second;
      count = omega (
        arith,
        lines_is t2 anew,
        lines_running item 0 second,
        lines_is t run,
        lines_running item opening first,
        length-append first second,
        ap
            length whole,
      );
      figure = omega (arith, figure_is t2 anew, figure_running item 0 0 second);
      side = λ _. anew_is t2 anew;
    } in
    run_fits form i item t first (ResetOf item (opening + total first) ∷ (anew ++ EndOf item (length lines) (total second) ∷ [])) fit
    (resets, run_fits form i item t2 second (EndOf item (length lines) (total second) ∷ []) later (last, tt))

pub block_in_form : (rising : Bool) (horizon : ℕ) (items : List FormItem) (load : Load) → IsSmall rising horizon load
    → OwnForm (record { rising = rising; horizon = horizon; items = items }) (form_item load) (start load.opening) (block load)
block_in_form rising horizon items load small =
    parts rising horizon items load.item load.opening load.reset load.lines small
  where
    parts : (rising : Bool) (horizon : ℕ) (items : List FormItem) (item opening : ℕ) (reset : Option ℕ) (lines : List Delivery)
        → IsSmall rising horizon (record { item = item; opening = opening; reset = reset; lines = lines })
        → OwnForm (record { rising = rising; horizon = horizon; items = items }) (record { item = item; opening = opening; reset = reset }) (start opening)
        (block (record { item = item; opening = opening; reset = reset; lines = lines }))
    parts rising horizon items item opening None lines small = unbroken rising horizon items item opening lines small
    parts rising horizon items item opening (Some from) lines small =
        let form : LaneForm = record { rising = rising; horizon = horizon; items = items } in
        let i : FormItem = record { item = item; opening = opening; reset = Some from } in
        subst (OwnForm form i (start opening))
        (sym (append_assoc (running item opening (early from lines)) (ResetOf item (opening + total (early from lines)) ∷ running item 0 (late from lines))
        (EndOf item (length lines) (total (late from lines)) ∷ [])))
        (broken rising horizon items item opening from lines small)
