-- Netting one pair: the rows of its plan from one record as wholes, and rows of firm planned orders that say the same.
use Rattle.std.specs.Prelude.{◌≡◌, ℕ, ◌≤◌, ◌<◌, List, length, sum, take, zero, suc, slice_index}
use Rattle.std.proofs.Common.{arith, refl, sym, ◌∙◌, ⊎_elim}
use Rattle.std.proofs.lemmas.Bool.{cases_lt}
use Rattle.std.proofs.lemmas.List.{get_or_past}
use Rattle.std.proofs.lemmas.List.FromFn.{length-map-range_with_len}
use Rattle.mrp_qty.proofs.RangeLaws.{sum_by-range-take, sum_by-range-same}
use Rattle.mrp_netting.specs.PlanRows.{late_orders}
use Rattle.mrp_netting.specs.PlanningData.{PairData, lack, short, had, incoming_at, order_at, order_row, balance_before}
use Rattle.mrp_netting.specs.PlanningData.{release_at, release_row, earliest, one}
use Rattle.mrp_netting.specs.PlanningBound.{IsWithinData}
use Rattle.mrp_netting.proofs.RowSums.{sum_take-all}
use Rattle.mrp_netting.proofs.ReceiptLaws.{short-zero, short-suc, incoming_at-is}
use Rattle.mrp_netting.proofs.TogetherLaws.{same_plan}

pub one-gross : (d : PairData) → (one d).gross ≡ d.gross
unfolding one
one-gross d = refl

pub length-one-incoming : (d : PairData) → length (one d).incoming ≡ length d.gross
unfolding one
length-one-incoming d = length-map-range_with_len (incoming_at d) 0 (length d.gross)

pub length-one-order : (d : PairData) → length (one d).order ≡ length d.gross
unfolding one
length-one-order d = length-map-range_with_len (order_at d) 0 (length d.gross)

pub length-one-release : (d : PairData) → length (one d).release ≡ length d.gross
unfolding one
length-one-release d = length-map-range_with_len (release_at d (order_row d)) 0 (length d.gross)

pub length-one-available : (d : PairData) → length (one d).available ≡ length d.gross
unfolding one
length-one-available d = length-map-range_with_len (λ t. balance_before d (suc t)) 0 (length d.gross)

-- releases and late orders are read off the orders
pub one-release : (d : PairData) → (one d).release ≡ release_row d (one d).order
unfolding one
one-release d = refl

pub one-late : (d : PairData) → (one d).late ≡ late_orders (earliest d) (one d).order
unfolding one
one-late d = refl

-- two rows that say the same of the first n periods, and nothing beyond them
pub rows-same : (a b : List ℕ) (n : ℕ) → length a ≤ n → length b ≤ n → ((t : ℕ) → t < n → slice_index a t ≡ slice_index b t)
    → (t : ℕ) → slice_index a t ≡ slice_index b t
rows-same a b n short few same t =
    ⊎_elim (λ (within : t < n). same t within)
    (λ (past : n ≤ t). get_or_past a t 0 (omega arith) ∙ sym (get_or_past b t 0 (omega arith)))
    (cases_lt t n)

row_sum-same : (a b : List ℕ) (n : ℕ) → length a ≤ n → length b ≤ n → ((t : ℕ) → t < n → slice_index a t ≡ slice_index b t) → sum a ≡ sum b
row_sum-same a b n short few same =
    sym (sum_take-all a n short) ∙ sym (sum_by-range-take a n)
    ∙ sum_by-range-same (λ k. slice_index a k) (λ k. slice_index b k) n same
    ∙ sum_by-range-take b n ∙ sum_take-all b n few

-- rows of firm planned orders that say the same in each period of the horizon
pub record AreFirmRows (d : PairData) (starts dues : List ℕ) : Type 0 where
  pub few_starts : length starts ≤ length d.gross
  pub few_dues : length dues ≤ length d.gross
  pub start : (t : ℕ) → t < length d.gross → slice_index starts t ≡ slice_index d.firm_start t
  pub due : (t : ℕ) → t < length d.gross → slice_index dues t ≡ slice_index d.firm_due t

-- as much is due up to each period
firm_due-take : (d : PairData) (starts dues : List ℕ) → IsWithinData d → AreFirmRows d starts dues
    → (m : ℕ) → sum (take m dues) ≡ sum (take m d.firm_due)
firm_due-take d starts dues is are m =
    sym (sum_by-range-take dues m)
    ∙ sum_by-range-same (λ k. slice_index dues k) (λ k. slice_index d.firm_due k) m
    (λ k h. rows-same dues d.firm_due (length d.gross) are.few_dues is.firm_due are.due k)
    ∙ sum_by-range-take d.firm_due m

module _ (d : PairData) (starts dues : List ℕ) (is : IsWithinData d) (are : AreFirmRows d starts dues) where
  abbrev written : PairData
  written = record d { firm_start = starts; firm_due = dues }

  written_lack : (s : ℕ) → lack written s ≡ lack d s
  written_lack s = omega (arith, firm_due-take d starts dues is are (suc s))

  written_short : (t : ℕ) → short written t ≡ short d t
  written_short zero = omega (arith, short-zero written, short-zero d, written_lack zero)
  written_short (suc t) = omega (arith, short-suc written t, short-suc d t, written_lack (suc t), written_short t)

  written_had : (t : ℕ) → had written t ≡ had d t
  written_had t = omega (arith, written_short t)

  written_incoming : (t : ℕ) → incoming_at written t ≡ incoming_at d t
  written_incoming zero =
      omega (
        arith,
        incoming_at-is written zero,
        incoming_at-is d zero,
        written_had zero,
        rows-same dues d.firm_due (length d.gross) are.few_dues is.firm_due are.due zero,
      )
  written_incoming (suc t) =
      omega (
        arith,
        incoming_at-is written (suc t),
        incoming_at-is d (suc t),
        written_had t,
        written_had (suc t),
        rows-same dues d.firm_due (length d.gross) are.few_dues is.firm_due are.due (suc t),
      )

-- they give the same plan, and are within the bound as well
pub firm_rows-same : (d : PairData) (starts dues : List ℕ) → IsWithinData d → AreFirmRows d starts dues
    → one (record d { firm_start = starts; firm_due = dues }) ≡ one d
firm_rows-same d starts dues is are =
    same_plan (record d { firm_start = starts; firm_due = dues }) d (written_incoming d starts dues is are)
    (rows-same starts d.firm_start (length d.gross) are.few_starts is.firm_start are.start)

pub firm_rows-within : (d : PairData) (starts dues : List ℕ) → IsWithinData d → AreFirmRows d starts dues
    → IsWithinData (record d { firm_start = starts; firm_due = dues })
firm_rows-within d starts dues is are =
    let n = length d.gross in
    let started = row_sum-same starts d.firm_start n are.few_starts is.firm_start are.start in
    let came = row_sum-same dues d.firm_due n are.few_dues is.firm_due are.due in
    record {
      rule = is.rule;
      lead = is.lead;
      fence = is.fence;
      sooner = is.sooner;
      cover = is.cover;
      least = is.least;
      multiple = is.multiple;
      periods = is.periods;
      receipts = is.receipts;
      arrivals = is.arrivals;
      firm_start = are.few_starts;
      firm_due = are.few_dues;
      firm = started ∙ is.firm ∙ sym came;
      total = omega (arith, is.total, came);
    }
