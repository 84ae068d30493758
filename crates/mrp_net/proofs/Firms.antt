-- The network: its firm planned orders. What all periods have is what the pair has, and a pair without any, and
-- without a policy, is planned as before.
use Rattle.std.proofs.Common.{◌≡◌, ℕ, ◌+◌, ◌<◌, ◌≤◌, ◌==◌, eqb, if◌then◌else◌, List, [], ◌∷◌, length, map, sum, sum_by, slice_index, slice_range}
use Rattle.std.proofs.Common.{arith, refl, sym, ap, ◌∙◌, subst}
use Rattle.std.specs.List.{All, range_with_len}
use Rattle.std.proofs.lemmas.List.FromFn.{get_or-map-range_with_len, length-map-range_with_len}
use Rattle.std.proofs.lemmas.List.Elements.{All-head, All-tail, All-filter}
use Rattle.std.proofs.lemmas.List.Sums.{sum_by-cons, sum-map}
use Rattle.mrp_qty.proofs.RangeLaws.{placed_once, sum_by-add, sum_by-none, sum_by-ext}
use Rattle.mrp_netting.specs.declared.planning_data.Policy.{Policy}
use Rattle.mrp_netting.specs.PlanningData.{planned, plain}
use Rattle.mrp_netting.proofs.OneRows.{AreFirmRows, rows-same}
use Rattle.mrp_netting.proofs.TogetherLaws.{sum_is_enough}
use Rattle.mrp_grouping.proofs.Kept.{sum_filter}
use Rattle.mrp_grouping.proofs.Sorting.{IsGrouped-within}
use Rattle.mrp_master_data.specs.declared.rows.FirmRow.{FirmRow}
use Rattle.mrp_master_data.specs.Table.{Table, IsTable, IsPair, IsFirmRow, horizon}
use Rattle.mrp_net.specs.Built.{AreFirms}
use Rattle.mrp_net.specs.FirmOrders.{firms_of, starting_in, due_in, firm_start, firm_due, firm_total}
use Rattle.mrp_net.specs.Plan.{gross}
use Rattle.mrp_net.specs.PlanLaws.{PlainPairs, FirmsAreKept}
use Rattle.mrp_net.specs.Sums.{params_at, terms_at, row_of, incoming}
use Rattle.mrp_net.proofs.Sooner.{received_sooner-none}
use Rattle.mrp_net.specs.declared.terms.PlanningTerms.{PlanningTerms}
use Rattle.mrp_net.specs.Policies.{policy_of}
use Rattle.mrp_net.specs.Terms.{terms_given}

-- orders by a period of theirs, over all periods
by_period-sum : (period : FirmRow → ℕ) (n : ℕ) (orders : List FirmRow) → All (λ f. period f < n) orders
    → sum_by (λ t. sum_by (λ f. if period f == t then f.quantity else 0) orders) (range_with_len 0 n) ≡ sum_by (λ f. f.quantity) orders
by_period-sum period n [] below = sum_by-none (range_with_len 0 n)
by_period-sum period n (f ∷ fs) below =
    let at : FirmRow → ℕ → ℕ = λ g t. if period g == t then g.quantity else 0 in
    omega (
      arith,
      sum_by-ext (λ t. sum_by (λ g. if period g == t then g.quantity else 0) (f ∷ fs))
          (λ t. (if period f == t then f.quantity else 0) + sum_by (λ g. if period g == t then g.quantity else 0) fs)
          (range_with_len 0 n) (λ t. sum_by-cons (λ g. if period g == t then g.quantity else 0) f fs),
      sum_by-add (λ t. if period f == t then f.quantity else 0) (λ t. sum_by (λ g. if period g == t then g.quantity else 0) fs) (range_with_len 0 n),
      placed_once f.quantity (period f) n (All-head (λ g. period g < n) f fs below),
      by_period-sum period n fs (All-tail (λ g. period g < n) f fs below),
      sum_by-cons (λ (g : FirmRow). g.quantity) f fs,
    )

pub firms_in : (N : Table) (x : ℕ) → IsTable N → All (IsFirmRow N) (firms_of N x)
firms_in N x is = All-filter (λ (f : FirmRow). eqb f.pair.0 x) (IsFirmRow N) N.firms is.read.firms

pub starts_within : (N : Table) (x : ℕ) → IsTable N → All (λ f. f.start < horizon N) (firms_of N x)
starts_within N x is = λ k d h. let f = firms_in N x is k d h in omega (arith, f.start, f.due)

pub dues_within : (N : Table) (x : ℕ) → IsTable N → All (λ f. f.due < horizon N) (firms_of N x)
dues_within N x is = λ k d h. (firms_in N x is k d h).due

-- the orders of a pair together
pub firm_total-is : (N : Table) (x : ℕ) → sum_by (λ f. f.quantity) (firms_of N x) ≡ firm_total N x
firm_total-is N x = sum_filter (λ (f : FirmRow). f.quantity) (λ f. eqb f.pair.0 x) N.firms

pub firms_are_kept : FirmsAreKept
firms_are_kept N is x = record {
  started = sum-map (firm_start N x) (range_with_len 0 (horizon N))
      ∙ by_period-sum (λ f. f.start) (horizon N) (firms_of N x) (starts_within N x is) ∙ firm_total-is N x;
  come = sum-map (firm_due N x) (range_with_len 0 (horizon N))
      ∙ by_period-sum (λ f. f.due) (horizon N) (firms_of N x) (dues_within N x is) ∙ firm_total-is N x;
}

-- a row of orders by a period of theirs has all of their pieces
pub firm_row-sum : (period : FirmRow → ℕ) (n : ℕ) (orders : List FirmRow) → All (λ f. period f < n) orders
    → sum (map (λ t. sum_by (λ f. if period f == t then f.quantity else 0) orders) (range_with_len 0 n)) ≡ sum_by (λ f. f.quantity) orders
firm_row-sum period n orders below =
    sum-map (λ t. sum_by (λ f. if period f == t then f.quantity else 0) orders) (range_with_len 0 n) ∙ by_period-sum period n orders below

-- rows that say of each period what starts in it and is due in it
pub are_firm_rows : (given : PlanningTerms) (n : ℕ) (incoming required starts dues : List ℕ) → length required ≡ n
    → length starts ≤ n → length dues ≤ n → ((t : ℕ) → t < n → slice_index starts t ≡ starting_in given.orders.now t)
    → ((t : ℕ) → t < n → slice_index dues t ≡ due_in given.orders.now t)
    → AreFirmRows (planned (terms_given n given) incoming required) starts dues
are_firm_rows given n incoming required starts dues long few_starts few_dues start due = record {
  few_starts = omega (arith, long, few_starts);
  few_dues = omega (arith, long, few_dues);
  start = λ t h. start t (omega (arith, long)) ∙ sym (get_or-map-range_with_len (starting_in given.orders.now) 0 n t t 0 (omega (arith, long)) (omega arith));
  due = λ t h. due t (omega (arith, long)) ∙ sym (get_or-map-range_with_len (due_in given.orders.now) 0 n t t 0 (omega (arith, long)) (omega arith));
}

-- a row of no orders has no pieces
none_at : (N : Table) (amount : ℕ → ℕ) → ((t : ℕ) → amount t ≡ 0) → (t : ℕ) → slice_index (row_of N amount) t ≡ 0
none_at N amount none =
    rows-same (row_of N amount) [] (horizon N) (omega (arith, length-map-range_with_len amount 0 (horizon N))) (omega arith)
    (λ t h. get_or-map-range_with_len amount 0 (horizon N) t t 0 h (omega arith) ∙ none t)

pub plain_pairs : PlainPairs
plain_pairs N table x free none =
    let starts = none_at N (firm_start N x) (λ t. ap (λ (fs : List FirmRow). starting_in fs t) none) in
    let dues = none_at N (firm_due N x) (λ t. ap (λ (fs : List FirmRow). due_in fs t) none) in
    let when_due : (policy_of N x).sooner ≡ 0 = ap (λ (p : Policy). p.sooner) free in
    let no_sooner = received_sooner-none N x when_due in
    sum_is_enough (planned (terms_at N x) (row_of N (incoming N x)) (row_of N (gross N table x)))
    (plain (params_at N x) (row_of N (incoming N x)) (row_of N (gross N table x)))
    (record {
      params = refl;
      policy = free;
      gross = refl;
      when_due = when_due;
      come = λ t. omega (arith, dues t, ap (λ (row : List ℕ). slice_index row t) no_sooner);
      released = starts;
    })

-- ---- the orders of a pair as a network reads them

pub record FirmsOf (M : Table) (rows : List FirmRow) (starts : List ℕ) (x : ℕ) : Type 0 where
  pub rises : slice_index starts x ≤ slice_index starts (x + 1)
  pub within : slice_index starts (x + 1) ≤ length rows
  pub value : slice_range rows (slice_index starts x) (slice_index starts (x + 1)) ≡ firms_of M x
  pub each : All (IsFirmRow M) (firms_of M x)

pub firms_read : (N M : Table) (rows : List FirmRow) (starts : List ℕ) (x : ℕ) → N ≡ M → AreFirms N rows starts → IsTable N → IsPair M x
    → FirmsOf M rows starts x
firms_read N M rows starts x is are table pair =
    let here : IsPair N x = subst (λ (z : Table). IsPair z x) (sym is) pair in
    let ends = IsGrouped-within (λ (f : FirmRow). f.pair.0) (length N.pairs) N.firms rows starts x are here in
    subst (λ (z : Table). FirmsOf z rows starts x) is (record { rises = ends.0; within = ends.1; value = are.slices x here; each = firms_in N x table })
