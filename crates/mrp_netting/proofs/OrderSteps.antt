-- Netting one pair: one period of the loops over its orders.
use Rattle.std.specs.Prelude.{◌≡◌, ℕ, ◌+◌, ◌-◌, ◌≤◌, ◌<◌, min, List, length, sum, take, drop, slice_index, suc}
use Rattle.std.proofs.Common.{arith, refl, ap, ◌∙◌, sym, ⊎_elim}
use Rattle.std.proofs.lemmas.Bool.{cases_eq}
use Rattle.std.proofs.lemmas.List.FromFn.{length-map-range_with_len}
use Rattle.std.proofs.lemmas.List.Sums.{sum_by-take-drop}
use Rattle.mrp_qty.specs.declared.quantity.TheConstants.{MOST}
use Rattle.mrp_qty.proofs.RangeLaws.{sum_drop_take-le, sum_drop_take-one, sum_drop_take-suc}
use Rattle.mrp_lot.specs.Lot.{rule_quantities}
use Rattle.mrp_netting.specs.PlanRows.{sum_from}
use Rattle.mrp_netting.specs.PlanningData.{PairData, incoming_at, incoming_row, need, greatest, lot_for, order_after, order_at, balance_before}
use Rattle.mrp_netting.specs.PlanningBound.{IsWithinData}
use Rattle.mrp_netting.proofs.Greatest.{greatest-le, greatest-past}
use Rattle.mrp_netting.proofs.Lots.{lot_for-le}
use Rattle.mrp_netting.proofs.RowSums.{sum_from-past, sum_from-first, sum_take-all}
use Rattle.mrp_netting.proofs.ReceiptLaws.{incoming_row-at, incoming-le}
use Rattle.mrp_netting.proofs.DataLaws.{need-le, order_at-is, order_covers, balance_before-next, balance_before-le}

pub length-incoming_row : (d : PairData) → length (incoming_row d) ≡ length d.gross
length-incoming_row d = length-map-range_with_len (incoming_at d) 0 (length d.gross)

-- behind the horizon no need grows
need-past : (d : PairData) (before t m n : ℕ) → length d.gross ≤ t + m → m ≤ n → need d before t n ≤ need d before t m
need-past d before t m n past more =
    omega (
      arith,
      sum_from-past d.gross t (m + d.policy.cover) (n + d.policy.cover) (omega arith) (omega arith),
      sum_from-past (incoming_row d) t m n (omega (arith, length-incoming_row d)) more,
    )

-- so the greatest of so many is within the horizon
pub greatest-horizon : (d : PairData) (before t k : ℕ) → t < length d.gross
    → greatest (need d before t) (min k (length d.gross - t)) ≡ greatest (need d before t) k
greatest-horizon d before t k within =
    let m = min k (length d.gross - t) in
    let needs = need d before t in
    let split : k ≡ m + (k - m) = omega arith in
    ⊎_elim
    (λ (all : m ≡ k). ap (greatest needs) all)
    (λ (cut : m ≡ k → ⊥).
    sym (ap (greatest needs) split ∙ greatest-past needs m (k - m) (omega arith) (λ n more. need-past d before t m n (omega arith) more)))
    (cases_eq m k)

-- a row that is the incoming row
pub came-length : (d : PairData) (row : List ℕ) → row ≡ incoming_row d → length row ≡ length d.gross
came-length d row is = ap length is ∙ length-incoming_row d

pub came-at : (d : PairData) (row : List ℕ) (t came : ℕ) → row ≡ incoming_row d → came ≡ slice_index row t → came ≡ slice_index (incoming_row d) t
came-at d row t came is c = c ∙ ap (λ (xs : List ℕ). slice_index xs t) is

pub came-most : (d : PairData) (row : List ℕ) (t n : ℕ) → IsWithinData d → row ≡ incoming_row d → sum (take n (drop t row)) ≤ MOST
came-most d row t n is e =
    let all = ap (λ (xs : List ℕ). sum xs) e in
    omega (
      arith,
      all,
      sum_drop_take-le row t n,
      sum_take-all (incoming_row d) (length d.gross) (omega (arith, length-incoming_row d)),
      incoming-le d (length d.gross) (omega arith),
      is.total,
    )

-- one more period of gross requirements, with those of cover
pub window-more : (row : List ℕ) (t n k q : ℕ) → q ≡ slice_index row (t + n + k) → sum (take (n + k) (drop t row)) + q ≡ sum (take (n + 1 + k) (drop t row))
window-more row t n k q is =
    let at = ap (λ (i : ℕ). slice_index row i) (let e : t + n + k ≡ t + (n + k) = omega arith in e) in
    let next = ap (λ (m : ℕ). sum (take m (drop t row))) (let e : n + 1 + k ≡ suc (n + k) = omega arith in e) in
    omega (arith, is, at, next, sum_drop_take-suc row t (n + k))

-- the periods of cover a period later
pub record IsMoved (row : List ℕ) (t k ahead came gone : ℕ) : Type 0 where
  pub covers : gone ≤ ahead + came
  pub moved : (ahead + came) - gone ≡ sum (take k (drop (suc t) row))

pub window-moves : (row : List ℕ) (t k ahead came gone : ℕ) → ahead ≡ sum (take k (drop t row)) → came ≡ slice_index row (t + k) → gone ≡ slice_index row t
    → IsMoved row t k ahead came gone
window-moves row t k ahead came gone a c g =
    let first = sum_from-first row t k (suc k) refl in
    let more = sum_drop_take-suc row t k in
    record { covers = omega (arith, a, c, g, first, more); moved = omega (arith, a, c, g, first, more) }

-- the net requirement of a period
pub need-first : (d : PairData) (before t ahead required came : ℕ) → ahead ≡ sum_from d.gross (suc t) d.policy.cover → required ≡ slice_index d.gross t
    → came ≡ slice_index (incoming_row d) t
    → (d.params.safety + required + ahead) - (before + came) ≡ need d before t 1
need-first d before t ahead required came a r c =
    omega (
      arith,
      a,
      r,
      c,
      sum_from-first d.gross t d.policy.cover (1 + d.policy.cover) (omega arith),
      sum_drop_take-one (incoming_row d) t,
    )

pub need-most : (d : PairData) (before t n : ℕ) → IsWithinData d → need d before t n + rule_quantities d.params.rule ≤ MOST
need-most d before t n is = omega (arith, need-le d before t n, sum_by-take-drop (λ (x : ℕ). x) d.gross t, is.total)

pub greatest-most : (d : PairData) (before t n : ℕ) → IsWithinData d → greatest (need d before t) n ≤ MOST
greatest-most d before t n is = greatest-le (need d before t) n MOST (λ k. omega (arith, need-most d before t k is))

pub lot-most : (d : PairData) (before t : ℕ) → IsWithinData d
    → lot_for d.params.rule (need d before t) + d.policy.least + d.policy.multiple ≤ MOST
lot-most d before t is =
    let most = d.params.safety + sum d.gross in
    omega (
      arith,
      lot_for-le d.params.rule (need d before t) most is.rule
          (λ k. omega (arith, need-le d before t k, sum_by-take-drop (λ (x : ℕ). x) d.gross t)),
      is.total,
    )

-- one period of the loops
pub record IsStocked (d : PairData) (t before came ordered required : ℕ) : Type 0 where
  pub order : ordered ≡ order_at d t
  pub covered : required ≤ before + came + ordered
  pub small : (before + came + ordered) - required ≤ MOST
  pub next : (before + came + ordered) - required ≡ balance_before d (suc t)

pub is_stocked : (d : PairData) (t before came ordered required : ℕ) → IsWithinData d → t < length d.gross
    → before ≡ balance_before d t → came ≡ slice_index (incoming_row d) t → ordered ≡ order_after d before t → required ≡ slice_index d.gross t
    → IsStocked d t before came ordered required
is_stocked d t before came ordered required is within b i o g =
    let same : ordered ≡ order_at d t = o ∙ ap (λ (x : ℕ). order_after d x t) b ∙ sym (order_at-is d t) in
    let come = incoming_row-at d t within in
    let covers = order_covers d t is within in
    let next = balance_before-next d t is within in
    let most = balance_before-le d (suc t) is within in
    record {
      order = same;
      covered = omega arith;
      small = omega (arith, is.total);
      next = omega arith;
    }
