-- Delivery schedules: their calls, which are amounts of periods as deliveries, those of an early and
-- a late part, and their pieces.
use Rattle.std.proofs.Common.{◌≡◌, ℕ, zero, suc, ◌+◌, ◌-◌, ◌<◌, ◌≤◌, ◌==◌, not, Bool, true, false, cond, List, [], ◌∷◌, ◌++◌, length, inl, inr, refl, sym, ap}
use Rattle.std.proofs.Common.{◌∙◌, append_assoc, arith}
use Rattle.std.specs.Prelude.{nat_lt, Option, Some, None, filter_map}
use Rattle.std.proofs.lemmas.Bool.{cases_eq, eq-eqb, ne_eqb, lt-ltb, le-ltb, cond-true, cond-false}
use Rattle.std.proofs.lemmas.List.{append-nil}
use Rattle.std.proofs.lemmas.List.Elements.{filter_map-append}
use Rattle.std.proofs.lemmas.List.Sums.{sum_by-cons, sum_by-append}
use Rattle.mrp_record.specs.Entries.{EndOf, ResetOf, Delivery}
use Rattle.mrp_record.specs.Laws.{quantity_in}
use Rattle.mrp_record.specs.Text.{Load, body, block, early, late, last_figure, running, total}
use Rattle.mrp_record.proofs.Running.{early-append-late}
use Rattle.mrp_protocol.specs.Loads.{delivery_in, has_pieces}
use Rattle.mrp_schedules.specs.declared.line.ScheduleLine.{ScheduleLine}
use Rattle.mrp_schedules.specs.declared.line.ScheduleLine.TheVariants.{Call, Reset}
use Rattle.mrp_schedules.specs.Calls.{amounts, call_lines}
use Rattle.mrp_schedules.specs.Schedule.{line_of}

pub total-cons : (line : Delivery) (lines : List Delivery) → total (line ∷ lines) ≡ line.quantity + total lines
total-cons line lines = sum_by-cons (λ (l : Delivery). l.quantity) line lines

-- ---- the first period

pub amount_first : (f : ℕ → ℕ) (a n : ℕ) → 0 < f a → amounts f a (suc n) ≡ delivery_in f a ∷ amounts f (a + 1) n
amount_first f a n some =
    let is : has_pieces (delivery_in f a) ≡ true = ap not (ne_eqb (f a) 0 (λ e. omega (arith, e, some))) in
    rw is refl

pub amount_skipped : (f : ℕ → ℕ) (a n : ℕ) → f a ≡ 0 → amounts f a (suc n) ≡ amounts f (a + 1) n
amount_skipped f a n none = rw none refl

-- ---- before and after a reset

early_more : (from : ℕ) (line : Delivery) (lines : List Delivery) → line.period < from → early from (line ∷ lines) ≡ line ∷ early from lines
early_more from line lines h = let before : nat_lt line.period from ≡ true = lt-ltb line.period from h in rw before refl

late_more : (from : ℕ) (line : Delivery) (lines : List Delivery) → line.period < from → late from (line ∷ lines) ≡ late from lines
late_more from line lines h = let before : nat_lt line.period from ≡ true = lt-ltb line.period from h in rw before refl

early_none : (from : ℕ) (line : Delivery) (lines : List Delivery) → from ≤ line.period → early from (line ∷ lines) ≡ []
early_none from line lines h = let beyond : nat_lt line.period from ≡ false = le-ltb line.period from h in rw beyond refl

late_all : (from : ℕ) (line : Delivery) (lines : List Delivery) → from ≤ line.period → late from (line ∷ lines) ≡ line ∷ lines
late_all from line lines h = let beyond : nat_lt line.period from ≡ false = le-ltb line.period from h in rw beyond refl

none_early : (f : ℕ → ℕ) (from a n : ℕ) → from ≤ a → early from (amounts f a n) ≡ []
none_early f from a zero past = refl
none_early f from a (suc n) past = elim (cases_eq (f a) 0) [
  | inl none ↦ ap (early from) (amount_skipped f a n none) ∙ none_early f from (a + 1) n (omega arith)
  | inr some ↦ ap (early from) (amount_first f a n (omega arith)) ∙ early_none from (delivery_in f a) (amounts f (a + 1) n) past
]

all_late : (f : ℕ → ℕ) (from a n : ℕ) → from ≤ a → late from (amounts f a n) ≡ amounts f a n
all_late f from a zero past = refl
all_late f from a (suc n) past = elim (cases_eq (f a) 0) [
  | inl none ↦ ap (late from) (amount_skipped f a n none) ∙ all_late f from (a + 1) n (omega arith) ∙ sym (amount_skipped f a n none)
  | inr some ↦
      let is = amount_first f a n (omega arith) in
      ap (late from) is ∙ late_all from (delivery_in f a) (amounts f (a + 1) n) past ∙ sym is
]

early_by : (f : ℕ → ℕ) (k a n : ℕ) → k ≤ n → early (a + k) (amounts f a n) ≡ amounts f a k
early_by f zero a n h = none_early f (a + 0) a n (omega arith)
early_by f (suc k) a zero h = absurd (omega arith)
early_by f (suc k) a (suc n) h =
    let same : a + suc k ≡ (a + 1) + k = omega arith in
    let rest : early (a + suc k) (amounts f (a + 1) n) ≡ amounts f (a + 1) k =
    ap (λ (z : ℕ). early z (amounts f (a + 1) n)) same ∙ early_by f k (a + 1) n (omega arith) in
    elim (cases_eq (f a) 0) [
      | inl none ↦ ap (early (a + suc k)) (amount_skipped f a n none) ∙ rest ∙ sym (amount_skipped f a k none)
      | inr some ↦
          ap (early (a + suc k)) (amount_first f a n (omega arith))
          ∙ early_more (a + suc k) (delivery_in f a) (amounts f (a + 1) n) (omega arith)
          ∙ ap (λ (z : List Delivery). delivery_in f a ∷ z) rest
          ∙ sym (amount_first f a k (omega arith))
    ]

late_by : (f : ℕ → ℕ) (k a n : ℕ) → k ≤ n → late (a + k) (amounts f a n) ≡ amounts f (a + k) (n - k)
late_by f zero a n h =
    let here : a ≡ a + 0 = omega arith in
    let whole : n ≡ n - 0 = omega arith in
    all_late f (a + 0) a n (omega arith) ∙ ap (λ (z : ℕ). amounts f z n) here ∙ ap (amounts f (a + 0)) whole
late_by f (suc k) a zero h = absurd (omega arith)
late_by f (suc k) a (suc n) h =
    let same : a + suc k ≡ (a + 1) + k = omega arith in
    let less : n - k ≡ suc n - suc k = omega arith in
    let rest : late (a + suc k) (amounts f (a + 1) n) ≡ amounts f (a + suc k) (suc n - suc k) =
    ap (λ (z : ℕ). late z (amounts f (a + 1) n)) same ∙ late_by f k (a + 1) n (omega arith) ∙ ap (λ (z : ℕ). amounts f z (n - k)) (sym same)
    ∙ ap (amounts f (a + suc k)) less in
    elim (cases_eq (f a) 0) [
      | inl none ↦ ap (late (a + suc k)) (amount_skipped f a n none) ∙ rest
      | inr some ↦
          ap (late (a + suc k)) (amount_first f a n (omega arith))
          ∙ late_more (a + suc k) (delivery_in f a) (amounts f (a + 1) n) (omega arith)
          ∙ rest
    ]

-- the periods before one, and those from it on
pub early_amounts : (f : ℕ → ℕ) (from n : ℕ) → from ≤ n → early from (amounts f 0 n) ≡ amounts f 0 (from - 0)
early_amounts f from n h =
    let same : from ≡ 0 + from = omega arith in
    let whole : from ≡ from - 0 = omega arith in
    ap (λ (z : ℕ). early z (amounts f 0 n)) same ∙ early_by f from 0 n h ∙ ap (amounts f 0) whole

pub late_amounts : (f : ℕ → ℕ) (from n : ℕ) → from ≤ n → late from (amounts f 0 n) ≡ amounts f from (n - from)
late_amounts f from n h =
    let same : from ≡ 0 + from = omega arith in
    ap (λ (z : ℕ). late z (amounts f 0 n)) same ∙ late_by f from 0 n h ∙ ap (λ (z : ℕ). amounts f z (n - from)) (sym same)

-- together they have the pieces of all
pub parted_total : (f : ℕ → ℕ) (from n : ℕ) → from ≤ n → total (amounts f 0 (from - 0)) + total (amounts f from (n - from)) ≡ total (amounts f 0 n)
parted_total f from n h =
    let all = amounts f 0 n in
    omega (
      arith,
      ap total (early_amounts f from n h),
      ap total (late_amounts f from n h),
      ap total (early-append-late from all),
      sum_by-append (λ (l : Delivery). l.quantity) (early from all) (late from all),
    )

-- ---- as lines

running_lines : (reset : Option ℕ) (item figure : ℕ) (calls : List Delivery) → filter_map (line_of reset) (running item figure calls) ≡ call_lines figure calls
running_lines reset item figure [] = refl
running_lines reset item figure (c ∷ calls) =
    ap (λ (z : List ScheduleLine). Call c.period c.quantity (figure + c.quantity) ∷ z) (running_lines reset item (figure + c.quantity) calls)

pub body_lines : (item figure : ℕ) (calls : List Delivery) → filter_map (line_of None) (body item figure None calls) ≡ call_lines figure calls
body_lines item figure calls = running_lines None item figure calls

pub body_lines_anew : (item figure from : ℕ) (calls : List Delivery) → filter_map (line_of (Some from)) (body item figure (Some from) calls)
    ≡ call_lines figure (early from calls) ++ Reset from (figure + total (early from calls)) ∷ call_lines 0 (late from calls)
body_lines_anew item figure from calls =
    let before = running item figure (early from calls) in
    let closed = figure + total (early from calls) in
    filter_map-append (line_of (Some from)) before (ResetOf item closed ∷ running item 0 (late from calls))
    ∙ ap (λ (z : List ScheduleLine). z ++ filter_map (line_of (Some from)) (ResetOf item closed ∷ running item 0 (late from calls)))
    (running_lines (Some from) item figure (early from calls))
    ∙ ap (λ (z : List ScheduleLine). call_lines figure (early from calls) ++ Reset from closed ∷ z) (running_lines (Some from) item 0 (late from calls))

pub block_lines : (reset : Option ℕ) (load : Load) → filter_map (line_of reset) (block load)
    ≡ filter_map (line_of reset) (body load.item load.opening load.reset load.lines)
block_lines reset load =
    let front = body load.item load.opening load.reset load.lines in
    let last = EndOf load.item (length load.lines) (last_figure load.opening load.reset load.lines) ∷ [] in
    filter_map-append (line_of reset) front last ∙ append-nil (filter_map (line_of reset) front)

-- ---- a step of the loop over periods

-- so far and the rest make the whole
pub call_step : (f : ℕ → ℕ) (a n figure : ℕ) (sofar : List ScheduleLine) → 0 < f a
    → sofar ++ call_lines figure (amounts f a (suc n)) ≡ (sofar ++ Call a (f a) (figure + f a) ∷ []) ++ call_lines (figure + f a) (amounts f (a + 1) n)
call_step f a n figure sofar some =
    ap (λ (z : List Delivery). sofar ++ call_lines figure z) (amount_first f a n some)
    ∙ sym (append_assoc sofar (Call a (f a) (figure + f a) ∷ []) (call_lines (figure + f a) (amounts f (a + 1) n)))

pub total_step : (f : ℕ → ℕ) (a n : ℕ) → total (amounts f a (suc n)) ≡ f a + total (amounts f (a + 1) n)
total_step f a n = elim (cases_eq (f a) 0) [
  | inl none ↦ omega (arith, ap total (amount_skipped f a n none))
  | inr some ↦ omega (arith, ap total (amount_first f a n (omega arith)), total-cons (delivery_in f a) (amounts f (a + 1) n))
]

-- ---- the pieces of one period

quantity_step : (f : ℕ → ℕ) (t a n : ℕ) → quantity_in t (amounts f a (suc n)) ≡ cond (a == t) (f a) 0 + quantity_in t (amounts f (a + 1) n)
quantity_step f t a n = elim (cases_eq (f a) 0) [
  | inl none ↦
      let nothing : cond (a == t) (f a) 0 ≡ 0 = ap (λ (v : ℕ). cond (a == t) v 0) none ∙ nothing_either_way (a == t) in
      omega (arith, ap (quantity_in t) (amount_skipped f a n none), nothing)
  | inr some ↦
      omega (
        arith,
        ap (quantity_in t) (amount_first f a n (omega arith)),
        sum_by-cons (λ (line : Delivery). cond (line.period == t) line.quantity 0) (delivery_in f a) (amounts f (a + 1) n),
      )
]
  where
    nothing_either_way : (b : Bool) → cond {A = ℕ} b 0 0 ≡ 0
    nothing_either_way true = refl
    nothing_either_way false = refl

later_has_none : (f : ℕ → ℕ) (t a n : ℕ) → t < a → quantity_in t (amounts f a n) ≡ 0
later_has_none f t a zero h = refl
later_has_none f t a (suc n) h =
    let other : cond (a == t) (f a) 0 ≡ 0 = cond-false (a == t) (f a) 0 (ne_eqb a t (λ e. omega (arith, e, h))) in
    omega (arith, quantity_step f t a n, other, later_has_none f t (a + 1) n (omega arith))

pub earlier_has_none : (f : ℕ → ℕ) (t a n : ℕ) → a + n ≤ t → quantity_in t (amounts f a n) ≡ 0
earlier_has_none f t a zero h = refl
earlier_has_none f t a (suc n) h =
    let other : cond (a == t) (f a) 0 ≡ 0 = cond-false (a == t) (f a) 0 (ne_eqb a t (λ e. omega (arith, e, h))) in
    omega (arith, quantity_step f t a n, other, earlier_has_none f t (a + 1) n (omega arith))

pub has_amount : (f : ℕ → ℕ) (t a n : ℕ) → a ≤ t → t < a + n → quantity_in t (amounts f a n) ≡ f t
has_amount f t a zero low high = absurd (omega arith)
has_amount f t a (suc n) low high = elim (cases_eq a t) [
  | inl same ↦
      let here : cond (a == t) (f a) 0 ≡ f t = cond-true (a == t) (f a) 0 (eq-eqb a t same) ∙ ap f same in
      omega (arith, quantity_step f t a n, here, later_has_none f t (a + 1) n (omega arith))
  | inr apart ↦
      let other : cond (a == t) (f a) 0 ≡ 0 = cond-false (a == t) (f a) 0 (ne_eqb a t apart) in
      omega (arith, quantity_step f t a n, other, has_amount f t (a + 1) n (omega (arith, apart)) (omega arith))
]
