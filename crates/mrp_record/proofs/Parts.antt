-- Records of a lane: what a cursor has left of a block after a line, a reset or the end, and
-- how the part that it sent grows.
use Rattle.std.proofs.Common.{◌≡◌, ℕ, ◌+◌, ◌<◌, ◌≤◌, Bool, true, false, Some, None, Option, List, [], ◌∷◌, ◌++◌, refl, sym, ◌∙◌, ap, subst, length}
use Rattle.std.proofs.Common.{append_assoc, arith}
use Rattle.std.specs.Prelude.{nat_lt}
use Rattle.std.proofs.lemmas.Bool.{leb-false, lt-ltb, le-ltb}
use Rattle.std.proofs.lemmas.List.Sums.{sum_by-cons}
use Rattle.mrp_record.specs.Entries.{Entry, LineOf, EndOf, ResetOf, Delivery}
use Rattle.mrp_record.specs.Form.{is_anew}
use Rattle.mrp_record.specs.Text.{block, body, running, early, late, last_figure, total}
use Rattle.mrp_record.specs.Cursor.{Goods, goods_load}
use Rattle.mrp_record.specs.Shows.{left_from, figure_at, reset_at, IsPart}

-- ---- what is left after each record of a block

end_same : (front : List Entry) (item a b c d : ℕ) → a ≡ b → c ≡ d → front ++ EndOf item a c ∷ [] ≡ front ++ EndOf item b d ∷ []
end_same front item a b c d e h =
    ap (λ (m : ℕ). front ++ EndOf item m c ∷ []) e ∙ ap (λ (m : ℕ). front ++ EndOf item b m ∷ []) h

pub total-cons : (line : Delivery) (lines : List Delivery) → total (line ∷ lines) ≡ line.quantity + total lines
total-cons line lines = sum_by-cons (λ (l : Delivery). l.quantity) line lines

early_more : (from : ℕ) (line : Delivery) (lines : List Delivery) → line.period < from → early from (line ∷ lines) ≡ line ∷ early from lines
early_more from line lines h = let before : nat_lt line.period from ≡ true = lt-ltb line.period from h in rw before refl

late_more : (from : ℕ) (line : Delivery) (lines : List Delivery) → line.period < from → late from (line ∷ lines) ≡ late from lines
late_more from line lines h = let before : nat_lt line.period from ≡ true = lt-ltb line.period from h in rw before refl

early_none : (from : ℕ) (line : Delivery) (lines : List Delivery) → from ≤ line.period → early from (line ∷ lines) ≡ []
early_none from line lines h = let beyond : nat_lt line.period from ≡ false = le-ltb line.period from h in rw beyond refl

late_all : (from : ℕ) (line : Delivery) (lines : List Delivery) → from ≤ line.period → late from (line ∷ lines) ≡ line ∷ lines
late_all from line lines h = let beyond : nat_lt line.period from ≡ false = le-ltb line.period from h in rw beyond refl

-- the records of lines before a reset, the reset, and those of the lines after it
abbrev parted : ℕ → ℕ → ℕ → List Delivery → List Delivery → List Entry
parted item count figure before after =
    (running item figure before ++ ResetOf item (figure + total before) ∷ running item 0 after) ++ EndOf item count (total after) ∷ []

left_parted : (item count figure from : ℕ) (lines before after : List Delivery) → early from lines ≡ before → late from lines ≡ after
    → left_from item count figure (Some from) lines ≡ parted item (count + length lines) figure before after
left_parted item count figure from lines before after e h =
    ap (λ (z : List Delivery). parted item (count + length lines) figure z (late from lines)) e
    ∙ ap (λ (z : List Delivery). parted item (count + length lines) figure before z) h

pub left_line : (item count figure : ℕ) (reset : Option ℕ) (line : Delivery) (lines : List Delivery) → is_anew reset line.period ≡ false
    → left_from item count figure reset (line ∷ lines) ≡ LineOf item line.period line.quantity (figure + line.quantity)
    ∷ left_from item (count + 1) (figure + line.quantity) reset lines
left_line item count figure None line lines e =
    end_same (running item figure (line ∷ lines)) item (count + length (line ∷ lines)) (count + 1 + length lines) (figure + total (line ∷ lines))
    (figure + line.quantity + total lines)
    (omega arith)
    (omega (arith, total-cons line lines))
left_line item count figure (Some from) line lines e =
    let before : line.period < from = leb-false from line.period e in
    let counts : count + length (line ∷ lines) ≡ count + 1 + length lines = omega arith in
    let closed : figure + total (line ∷ early from lines) ≡ figure + line.quantity + total (early from lines) =
    omega (arith, total-cons line (early from lines)) in
    left_parted item count figure from (line ∷ lines) (line ∷ early from lines) (late from lines) (early_more from line lines before)
    (late_more from line lines before)
    ∙ ap (λ (m : ℕ). parted item m figure (line ∷ early from lines) (late from lines)) counts
    ∙ ap (λ (m : ℕ). LineOf item line.period line.quantity (figure + line.quantity)
    ∷ ((running item (figure + line.quantity) (early from lines) ++ ResetOf item m ∷ running item 0 (late from lines))
    ++ EndOf item (count + 1 + length lines) (total (late from lines)) ∷ [])) closed

-- the reset comes next
abbrev pub IsResetNext : ℕ → List Delivery → Type 0
IsResetNext from [] = Unit {0}
IsResetNext from (line ∷ lines) = from ≤ line.period

pub left_reset : (item count figure from : ℕ) (lines : List Delivery) → IsResetNext from lines
    → left_from item count figure (Some from) lines ≡ ResetOf item figure ∷ left_from item count 0 None lines
left_reset item count figure from [] h =
    let none : figure + 0 ≡ figure = omega arith in
    ap (λ (m : ℕ). ResetOf item m ∷ (EndOf item (count + 0) 0 ∷ [])) none
left_reset item count figure from (line ∷ lines) h =
    let none : figure + 0 ≡ figure = omega arith in
    let last : total (line ∷ lines) ≡ 0 + total (line ∷ lines) = omega arith in
    left_parted item count figure from (line ∷ lines) [] (line ∷ lines) (early_none from line lines h) (late_all from line lines h)
    ∙ ap (λ (m : ℕ). ResetOf item m ∷ (running item 0 (line ∷ lines) ++ EndOf item (count + length (line ∷ lines)) (total (line ∷ lines)) ∷ [])) none
    ∙ ap (λ (m : ℕ). ResetOf item figure ∷ (running item 0 (line ∷ lines) ++ EndOf item (count + length (line ∷ lines)) m ∷ [])) last

pub left_end : (item count figure : ℕ) → left_from item count figure None [] ≡ EndOf item count figure ∷ []
left_end item count figure = end_same [] item (count + 0) count (figure + 0) figure (omega arith) (omega arith)

-- ---- the part that was sent

pub part_fresh : (g : Goods) → IsPart g 0 0 0 false []
part_fresh g =
    let opened : g.opening ≡ g.opening + 0 = omega arith in
    record {
      whole =
          ap (λ (m : ℕ). body g.item g.opening g.reset (g.from 0) ++ EndOf g.item m (last_figure g.opening g.reset (g.from 0)) ∷ []) (omega arith)
          ∙ ap (λ (figure : ℕ). left_from g.item 0 figure g.reset (g.from 0)) opened;
      lines = omega arith;
      pieces = omega arith;
    }

pub part_fresh_at : (g : Goods) (mark lines moved : ℕ) (anew : Bool) → mark ≡ 0 → lines ≡ 0 → moved ≡ 0 → anew ≡ false → IsPart g mark lines moved anew []
part_fresh_at g mark lines moved anew a b c d =
    subst (λ (m : ℕ). IsPart g m lines moved anew []) (sym a) (
    subst (λ (m : ℕ). IsPart g 0 m moved anew []) (sym b) (
    subst (λ (m : ℕ). IsPart g 0 0 m anew []) (sym c) (subst (λ (m : Bool). IsPart g 0 0 0 m []) (sym d) (part_fresh g))
    )
    )

figure_more : (anew : Bool) (moved quantity opening : ℕ) → figure_at anew moved opening + quantity ≡ figure_at anew (moved + quantity) opening
figure_more true moved quantity opening = refl
figure_more false moved quantity opening = omega arith

further : (part : List Entry) (e : Entry) (rest whole left : List Entry) → whole ≡ part ++ left → left ≡ e ∷ rest → whole ≡ (part ++ e ∷ []) ++ rest
further part e rest whole left h g = h ∙ ap (λ (z : List Entry). part ++ z) g ∙ sym (append_assoc part (e ∷ []) rest)

pub part_line : (g : Goods) (mark after lines moved : ℕ) (anew : Bool) (part : List Entry) (line : Delivery) → IsPart g mark lines moved anew part
    → g.from mark ≡ line ∷ g.from after
    → is_anew (reset_at anew g.reset) line.period ≡ false
    → IsPart g after (lines + 1) (moved + line.quantity) anew (part ++ LineOf g.item line.period line.quantity (figure_at anew moved g.opening + line.quantity)
    ∷ [])
part_line g mark after lines moved anew part line h e side =
    let rest = g.from after in
    let figure = figure_at anew moved g.opening in
    let reset = reset_at anew g.reset in
    let first : left_from g.item lines figure reset (g.from mark) ≡ left_from g.item lines figure reset (line ∷ rest) =
    ap (left_from g.item lines figure reset) e in
    let moved_on : left_from g.item (lines + 1) (figure + line.quantity) reset rest
    ≡ left_from g.item (lines + 1) (figure_at anew (moved + line.quantity) g.opening) reset rest =
    ap (λ (m : ℕ). left_from g.item (lines + 1) m reset rest) (figure_more anew moved line.quantity g.opening) in
    let entry = LineOf g.item line.period line.quantity (figure + line.quantity) in
    record {
      whole =
          further part entry (left_from g.item (lines + 1) (figure_at anew (moved + line.quantity) g.opening) reset rest) (block (goods_load g))
          (left_from g.item lines figure reset (g.from mark)) h.whole
          (first ∙ left_line g.item lines figure reset line rest side ∙ ap (λ (z : List Entry). entry ∷ z) moved_on);
      lines = omega (arith, h.lines, ap length e);
      pieces = omega (arith, h.pieces, ap total e, total-cons line rest);
    }

pub part_reset : (g : Goods) (mark lines moved from : ℕ) (part : List Entry) → IsPart g mark lines moved false part → g.reset ≡ Some from
    → IsResetNext from (g.from mark)
    → IsPart g mark lines 0 true (part ++ ResetOf g.item (g.opening + moved) ∷ [])
part_reset g mark lines moved from part h is next =
    let figure = g.opening + moved in
    let first : left_from g.item lines figure g.reset (g.from mark) ≡ left_from g.item lines figure (Some from) (g.from mark) =
    ap (λ (r : Option ℕ). left_from g.item lines figure r (g.from mark)) is in
    record {
      whole =
          further part (ResetOf g.item figure) (left_from g.item lines 0 None (g.from mark)) (block (goods_load g))
          (left_from g.item lines figure g.reset (g.from mark)) h.whole
          (first ∙ left_reset g.item lines figure from (g.from mark) next);
      lines = h.lines;
      pieces = omega (arith, h.pieces);
    }

pub part_end : (g : Goods) (mark lines moved : ℕ) (anew : Bool) (part : List Entry) → IsPart g mark lines moved anew part → g.from mark ≡ []
    → reset_at anew g.reset ≡ None
    → block (goods_load g) ≡ part ++ EndOf g.item lines (figure_at anew moved g.opening) ∷ []
part_end g mark lines moved anew part h none is =
    let figure = figure_at anew moved g.opening in
    h.whole
    ∙ ap (λ (z : List Entry). part ++ z) (
    ap (λ (z : List Delivery). left_from g.item lines figure (reset_at anew g.reset) z) none
    ∙ ap (λ (r : Option ℕ). left_from g.item lines figure r []) is
    ∙ left_end g.item lines figure
    )
