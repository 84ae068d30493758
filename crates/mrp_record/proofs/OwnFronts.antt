-- Records of a lane: those of one item, each of which goes on from those before it, are a prefix of
-- the block of what they deliver.
use Rattle.std.proofs.Common.{◌≡◌, ℕ, ◌+◌, ◌<◌, ◌≤◌, ◌==◌, true, false, suc, Some, None, Option, List, [], ◌∷◌, ◌++◌, refl, sym, ◌∙◌, ap, length, append_assoc}
use Rattle.std.proofs.Common.{arith}
use Rattle.std.specs.Prelude.{nat_lt, is_some}
use Rattle.std.specs.List.{filter_map}
use Rattle.std.proofs.lemmas.Bool.{eq-eqb, eqb-true, both_ways, false≢true, true≢false, leb-false, leb-true, lt-ltb, le-ltb, cond-true, cond-false}
use Rattle.std.proofs.lemmas.List.Sums.{sum_by-cons}
use Rattle.mrp_record.specs.Entries.{Entry, LineOf, EndOf, ResetOf, Closing, Delivery}
use Rattle.mrp_record.specs.Blocks.{entry_delivery}
use Rattle.mrp_record.specs.Form.{FormItem, LaneForm}
use Rattle.mrp_record.specs.Text.{Load, total, running, early, late, block}
use Rattle.mrp_record.proofs.Own.{AllOf}
use Rattle.mrp_record.proofs.Tallies.{Tally, after, start, OwnForm}

pub record IsFront (own whole : List Entry) : Type 0 where
  pub rest : List Entry
  pub is : own ++ rest ≡ whole

abbrev pub delivered : List Entry → List Delivery
delivered own = filter_map entry_delivery own

-- ---- single records

of_item : (item other : ℕ) → ((n : ℕ) → (item == n) ≡ (other == n)) → item ≡ other
of_item item other same = eqb-true item other (same other ∙ eq-eqb other other refl)

line_on : (item other p q c d : ℕ) (xs ys : List Entry) → item ≡ other → c ≡ d → xs ≡ ys → LineOf item p q c ∷ xs ≡ LineOf other p q d ∷ ys
line_on item other p q c d xs ys e f g = cc

end_on : (item other n m c d : ℕ) (xs ys : List Entry) → item ≡ other → n ≡ m → c ≡ d → xs ≡ ys → EndOf item n c ∷ xs ≡ EndOf other m d ∷ ys
end_on item other n m c d xs ys e f g h = cc

reset_on : (item other c d : ℕ) (xs ys : List Entry) → item ≡ other → c ≡ d → xs ≡ ys → ResetOf item c ∷ xs ≡ ResetOf other d ∷ ys
reset_on item other c d xs ys e f g = cc

-- after its end an item has no records
nothing_after_end : (form : LaneForm) (i : FormItem) (t : Tally) (own : List Entry) → OwnForm form i t own → t.ended ≡ true → own ≡ []
nothing_after_end form i t [] h e = refl
nothing_after_end form i t (LineOf item p q c ∷ es) h e = absurd (both_ways t.ended h.0.unended e)
nothing_after_end form i t (EndOf item n c ∷ es) h e = absurd (both_ways t.ended h.0.unended e)
nothing_after_end form i t (ResetOf item c ∷ es) h e = absurd (both_ways t.ended h.0.unended e)
nothing_after_end form i t (Closing ∷ es) h e = absurd h.0

-- ---- lines and the end

abbrev plain : ℕ → ℕ → ℕ → List Delivery → List Entry
plain item figure count lines = running item figure lines ++ EndOf item (count + length lines) (figure + total lines) ∷ []

plain_more : (item figure count : ℕ) (line : Delivery) (lines : List Delivery)
    → LineOf item line.period line.quantity (figure + line.quantity) ∷ plain item (figure + line.quantity) (count + 1) lines
    ≡ plain item figure count (line ∷ lines)
plain_more item figure count line lines =
    let run = running item (figure + line.quantity) lines in
    ap (λ (z : List Entry). LineOf item line.period line.quantity (figure + line.quantity) ∷ (run ++ z))
    (end_on item item (count + 1 + length lines) (count + suc (length lines)) (figure + line.quantity + total lines) (figure + total (line ∷ lines)) [] [] refl
    (omega arith) (omega (arith, sum_by-cons (λ (l : Delivery). l.quantity) line lines)) refl)

-- where no reset can come, the records are lines and the end
plain_front : (form : LaneForm) (i : FormItem) (t : Tally) (own : List Entry) → AllOf i.item own → OwnForm form i t own
    → (is_some i.reset ≡ true → t.anew ≡ false → ⊥)
    → IsFront own (plain i.item t.figure t.lines (delivered own))
plain_front form i t [] all h none =
    record {
      rest = EndOf i.item t.lines t.figure ∷ [];
      is = end_on i.item i.item t.lines (t.lines + 0) t.figure (t.figure + 0) [] [] refl (omega arith)
          (omega arith) refl;
    }
plain_front form i t (LineOf item p q c ∷ es) all h none =
    let same : item ≡ i.item = of_item item i.item all.0 in
    let later = plain_front form i (after t (LineOf item p q c)) es all.1 h.1 none in
    let line : Delivery = record { period = p; quantity = q } in
    record {
      rest = later.rest;
      is =
          line_on item i.item p q c (t.figure + q) (es ++ later.rest) (plain i.item (t.figure + q) (t.lines + 1) (delivered es)) same h.0.figure later.is
          ∙ plain_more i.item t.figure t.lines line (delivered es);
    }
plain_front form i t (EndOf item n c ∷ es) all h none =
    let same : item ≡ i.item = of_item item i.item all.0 in
    let last : es ≡ [] = nothing_after_end form i (after t (EndOf item n c)) es h.1 refl in
    let lines : delivered es ≡ [] = ap (λ (z : List Entry). filter_map entry_delivery z) last in
    let here : EndOf item n c ∷ (es ++ []) ≡ plain i.item t.figure t.lines [] =
    end_on item i.item n (t.lines + 0) c (t.figure + 0) (es ++ []) [] same (omega (arith, h.0.count)) (omega (arith, h.0.figure))
    (ap (λ (z : List Entry). z ++ []) last) in
    record { rest = []; is = here ∙ ap (λ (z : List Delivery). plain i.item t.figure t.lines z) (sym lines) }
plain_front form i t (ResetOf item c ∷ es) all h none = absurd (none h.0.awaited h.0.first)
plain_front form i t (Closing ∷ es) all h none = absurd h.0

-- ---- lines, the reset, lines and the end

abbrev parted : ℕ → ℕ → List Delivery → List Delivery → ℕ → List Entry
parted item figure first second count =
    running item figure first ++ ResetOf item (figure + total first) ∷ (running item 0 second ++ EndOf item count (total second) ∷ [])

parted_more : (item figure : ℕ) (line : Delivery) (first second : List Delivery) (n m : ℕ) → n ≡ m
    → LineOf item line.period line.quantity (figure + line.quantity) ∷ parted item (figure + line.quantity) first second n
    ≡ parted item figure (line ∷ first) second m
parted_more item figure line first second n m e =
    let run = running item (figure + line.quantity) first in
    let last = λ (k : ℕ). running item 0 second ++ EndOf item k (total second) ∷ [] in
    ap (λ (z : List Entry). LineOf item line.period line.quantity (figure + line.quantity) ∷ (run ++ z))
    (reset_on item item (figure + line.quantity + total first) (figure + total (line ∷ first)) (last n) (last m) refl
    (omega (arith, sum_by-cons (λ (l : Delivery). l.quantity) line first)) (ap last e))

early_more : (from : ℕ) (line : Delivery) (lines : List Delivery) → line.period < from
    → (early from (line ∷ lines) ≡ line ∷ early from lines) × (late from (line ∷ lines) ≡ late from lines)
early_more from line lines l =
    let yes : nat_lt line.period from ≡ true = lt-ltb line.period from l in (
      cond-true {A = List Delivery} (nat_lt line.period from) (line ∷ early from lines) [] yes,
      cond-true {A =
          List Delivery} (nat_lt line.period from) (late from lines) (line ∷ lines) yes,
    )

late_all : (from : ℕ) (line : Delivery) (lines : List Delivery) → from ≤ line.period
    → (early from (line ∷ lines) ≡ []) × (late from (line ∷ lines) ≡ line ∷ lines)
late_all from line lines l =
    let no : nat_lt line.period from ≡ false = le-ltb line.period from l in (
      cond-false {A = List Delivery} (nat_lt line.period from) (line ∷ early from lines) [] no,
      cond-false {A =
          List Delivery} (nat_lt line.period from) (late from lines) (line ∷ lines) no,
    )

-- an item whose figures start anew in a period
abbrev anew_from : ℕ → ℕ → ℕ → FormItem
anew_from item opening from = record { item = item; opening = opening; reset = Some from }

-- after the reset no line is before its period
late_after : (form : LaneForm) (item opening from : ℕ) (t : Tally) (own : List Entry) → OwnForm form (anew_from item opening from) t own → t.anew ≡ true
    → (early from (delivered own) ≡ []) × (late from (delivered own) ≡ delivered own)
late_after form item opening from t [] h anew = (refl, refl)
late_after form item opening from t (LineOf j p q c ∷ es) h anew =
    late_all from (record { period = p; quantity = q }) (delivered es) (leb-true from p (sym h.0.side ∙ anew))
late_after form item opening from t (EndOf j n c ∷ es) h anew =
    let i = anew_from item opening from in
    let last : es ≡ [] = nothing_after_end form i (after t (EndOf j n c)) es h.1 refl in
    let lines : delivered es ≡ [] = ap (λ (z : List Entry). filter_map entry_delivery z) last in
    (ap (early from) lines, ap (late from) lines ∙ sym lines)
late_after form item opening from t (ResetOf j c ∷ es) h anew = absurd (both_ways t.anew h.0.first anew)
late_after form item opening from t (Closing ∷ es) h anew = absurd h.0

parted_front : (form : LaneForm) (item opening from : ℕ) (t : Tally) (own : List Entry) → AllOf item own → OwnForm form (anew_from item opening from) t own
    → t.anew ≡ false
    → IsFront own (parted item t.figure (early from (delivered own)) (late from (delivered own)) (t.lines + length (delivered own)))
parted_front form item opening from t [] all h old =
    let last = EndOf item t.lines 0 ∷ [] in
    record {
      rest = ResetOf item t.figure ∷ last;
      is = reset_on item item t.figure (t.figure + 0) last (EndOf item (t.lines + 0) 0 ∷ []) refl (omega arith)
          (end_on item item t.lines (t.lines + 0) 0 0 [] [] refl (omega arith) refl refl);
    }
parted_front form item opening from t (LineOf j p q c ∷ es) all h old =
    let same : j ≡ item = of_item j item all.0 in
    let line : Delivery = record { period = p; quantity = q } in
    let lines = delivered es in
    let later = parted_front form item opening from (after t (LineOf j p q c)) es all.1 h.1 old in
    let before : p < from = leb-false from p (sym h.0.side ∙ old) in
    let cuts = early_more from line lines before in
    let whole = λ (first second : List Delivery). parted item t.figure first second (t.lines + suc (length lines)) in
    record {
      rest = later.rest;
      is =
          line_on j item p q c (t.figure + q) (es ++ later.rest)
          (parted item (t.figure + q) (early from lines) (late from lines) (t.lines + 1 + length lines)) same h.0.figure later.is
          ∙ parted_more item t.figure line (early from lines) (late from lines) (t.lines + 1 + length lines) (t.lines + suc (length lines)) (omega arith)
          ∙ ap (λ (z : List Delivery). whole z (late from lines)) (sym cuts.0)
          ∙ ap (λ (z : List Delivery). whole (early from (line ∷ lines)) z) (sym cuts.1);
    }
parted_front form item opening from t (EndOf j n c ∷ es) all h old = absurd (both_ways t.anew old (h.0.side refl))
parted_front form item opening from t (ResetOf j c ∷ es) all h old =
    let i = anew_from item opening from in
    let same : j ≡ item = of_item j item all.0 in
    let lines = delivered es in
    let later = plain_front form i (after t (ResetOf j c)) es all.1 h.1 (λ _ wrong. true≢false wrong) in
    let cuts = late_after form item opening from (after t (ResetOf j c)) es h.1 refl in
    let whole = λ (first second : List Delivery). parted item t.figure first second (t.lines + length lines) in
    let end : plain item 0 t.lines lines ≡ running item 0 lines ++ EndOf item (t.lines + length lines) (total lines) ∷ [] =
    ap (λ (z : List Entry). running item 0 lines ++ z) (end_on item item (t.lines + length lines) (t.lines + length lines) (0 + total lines)
    (total lines) [] [] refl refl (omega arith) refl) in
    record {
      rest = later.rest;
      is =
          reset_on j item c (t.figure + 0) (es ++ later.rest) (running item 0 lines ++ EndOf item (t.lines + length lines) (total lines) ∷ []) same
          (omega (arith, h.0.figure)) (later.is ∙ end)
          ∙ ap (λ (z : List Delivery). whole z lines) (sym cuts.0)
          ∙ ap (λ (z : List Delivery). whole (early from lines) z) (sym cuts.1);
    }
parted_front form item opening from t (Closing ∷ es) all h old = absurd h.0

-- ---- the block

-- what an item delivers by its records
abbrev pub load_by : FormItem → List Entry → Load
load_by i own = record { item = i.item; opening = i.opening; reset = i.reset; lines = delivered own }

pub block_front : (form : LaneForm) (i : FormItem) (own : List Entry) → AllOf i.item own → OwnForm form i (start i.opening) own
    → IsFront own (block (load_by i own))
block_front form i own all h = by i.item i.opening i.reset all h
  where
    by : (item opening : ℕ) (reset : Option ℕ) → AllOf item own → OwnForm form (record { item = item; opening = opening; reset = reset }) (start opening) own
        → IsFront own (block (load_by (record { item = item; opening = opening; reset = reset }) own))
    by item opening None all h =
        let front = plain_front form (record { item = item; opening = opening; reset = None }) (start opening) own all h (λ wrong _. false≢true wrong) in
        let lines = delivered own in
        record {
          rest = front.rest;
          is =
              front.is
              ∙ ap (λ (z : List Entry). running item opening lines ++ z)
              (end_on item item (0 + length lines) (length lines) (opening + total lines) (opening + total lines) [] [] refl (omega arith) refl refl);
        }
    by item opening (Some from) all h =
        let front = parted_front form item opening from (start opening) own all h refl in
        let lines = delivered own in
        let first = early from lines in
        let second = late from lines in
        record {
          rest = front.rest;
          is =
              front.is
              ∙ ap (λ (n : ℕ). parted item opening first second n) (omega arith)
              ∙ sym (append_assoc (running item opening first) (ResetOf item (opening + total first) ∷ running item 0 second)
              (EndOf item (length lines) (total second) ∷ []));
        }
