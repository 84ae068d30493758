-- The network: receipts that may be counted sooner than they come, those that count when they come,
-- and the plan from all of them.
use Rattle.std.proofs.Common.{◌≡◌, ℕ, ◌+◌, ◌<◌, ◌≤◌, nat_lt, List, [], length, map, slice_index, replicate, take, inl, inr}
use Rattle.std.proofs.Common.{arith, refl, sym, ap, ◌∙◌}
use Rattle.std.specs.List.{range_with_len}
use Rattle.std.proofs.lemmas.Bool.{cases_lt, cond-true, cond-false, lt-ltb, le-ltb}
use Rattle.std.proofs.lemmas.List.{get_or_past, get_or-replicate, length-replicate}
use Rattle.std.proofs.lemmas.List.FromFn.{get_or-map-range_with_len, length-map-range_with_len}
use Rattle.mrp_qty.proofs.RangeLaws.{map-range-same}
use Rattle.mrp_netting.specs.PlanningData.{one}
use Rattle.mrp_netting.proofs.TogetherLaws.{sum_is_enough}
use Rattle.mrp_master_data.specs.Table.{Table, horizon}
use Rattle.mrp_net.specs.Plan.{pair_data, pair_plan}
use Rattle.mrp_net.specs.PlanLaws.{whole_data, PlansAreOfAllReceipts}
use Rattle.mrp_net.specs.Policies.{policy_of}
use Rattle.mrp_net.proofs.Summing.{row_at}
use Rattle.mrp_net.specs.Sums.{incoming, received, received_sooner, received_when_due, row_of, shipped}

-- a pair without SOONER
pub received_sooner-none : (N : Table) (x : ℕ) → (policy_of N x).sooner ≡ 0 → received_sooner N x ≡ []
received_sooner-none N x none =
    cond-false (nat_lt 0 (policy_of N x).sooner) (row_of N (received N x)) [] (le-ltb 0 (policy_of N x).sooner (omega (arith, none)))

pub when_due-all : (N : Table) (x t : ℕ) → (policy_of N x).sooner ≡ 0 → received_when_due N x t ≡ received N x t
when_due-all N x t none =
    cond-false (nat_lt 0 (policy_of N x).sooner) 0 (received N x t) (le-ltb 0 (policy_of N x).sooner (omega (arith, none)))

-- and one with it
pub received_sooner-all : (N : Table) (x : ℕ) → 0 < (policy_of N x).sooner → received_sooner N x ≡ row_of N (received N x)
received_sooner-all N x some = cond-true (nat_lt 0 (policy_of N x).sooner) (row_of N (received N x)) [] (lt-ltb 0 (policy_of N x).sooner some)

pub when_due-none : (N : Table) (x t : ℕ) → 0 < (policy_of N x).sooner → received_when_due N x t ≡ 0
when_due-none N x t some = cond-true (nat_lt 0 (policy_of N x).sooner) 0 (received N x t) (lt-ltb 0 (policy_of N x).sooner some)

pub when_due-le : (N : Table) (x t : ℕ) → received_when_due N x t ≤ received N x t
when_due-le N x t =
    elim (cases_lt 0 (policy_of N x).sooner) as (λ _. received_when_due N x t ≤ received N x t) [
      | inl some ↦ omega (arith, when_due-none N x t some)
      | inr none ↦ omega (arith, when_due-all N x t (omega (arith, none)))
    ]

-- rows of those that count when they come: no pieces, or all
pub when_due_row-none : (N : Table) (x periods most : ℕ) → 0 < (policy_of N x).sooner → periods ≡ horizon N → periods ≤ most
    → take periods (replicate most 0) ≡ row_of N (received_when_due N x)
when_due_row-none N x periods most some width room =
    row_at (replicate most 0) 0 periods (received_when_due N x) (omega (arith, length-replicate {A = ℕ} most 0, room))
    (λ t h. omega (arith, get_or-replicate {A = ℕ} most (0 + t) 0 0 (omega (arith, h, room)), when_due-none N x t some))
    ∙ ap (λ (n : ℕ). map (received_when_due N x) (range_with_len 0 n)) width

pub when_due_row-all : (N : Table) (x : ℕ) → (policy_of N x).sooner ≡ 0 → row_of N (received N x) ≡ row_of N (received_when_due N x)
when_due_row-all N x none = map-range-same (received N x) (received_when_due N x) (horizon N) (λ t h. sym (when_due-all N x t none))

-- those that may be counted sooner stand in no more than all periods
pub received_sooner-few : (N : Table) (x : ℕ) → length (received_sooner N x) ≤ horizon N
received_sooner-few N x =
    elim (cases_lt 0 (policy_of N x).sooner) as (λ _. length (received_sooner N x) ≤ horizon N) [
      | inl some ↦ omega (arith, ap (λ (row : List ℕ). length row) (received_sooner-all N x some), length-map-range_with_len (received N x) 0 (horizon N))
      | inr none ↦ omega (arith, ap (λ (row : List ℕ). length row) (received_sooner-none N x (omega (arith, none))))
    ]

-- ---- the plan from all receipts

-- rows that add up in each period do so past their ends
rows_add : (f g h : ℕ → ℕ) (n : ℕ) → ((t : ℕ) → f t ≡ g t + h t) → (t : ℕ)
    → slice_index (map f (range_with_len 0 n)) t ≡ slice_index (map g (range_with_len 0 n)) t + slice_index (map h (range_with_len 0 n)) t
rows_add f g h n add t =
    elim (cases_lt t n) as
    (λ _. slice_index (map f (range_with_len 0 n)) t ≡ slice_index (map g (range_with_len 0 n)) t + slice_index (map h (range_with_len 0 n)) t) [
      | inl within ↦
          omega (
            arith,
            get_or-map-range_with_len f 0 n t t 0 within (omega arith),
            get_or-map-range_with_len g 0 n t t 0 within (omega arith),
            get_or-map-range_with_len h 0 n t t 0 within (omega arith),
            add t,
          )
      | inr past ↦
          omega (
            arith,
            get_or_past (map f (range_with_len 0 n)) t 0 (omega (arith, length-map-range_with_len f 0 n, past)),
            get_or_past (map g (range_with_len 0 n)) t 0 (omega (arith, length-map-range_with_len g 0 n, past)),
            get_or_past (map h (range_with_len 0 n)) t 0 (omega (arith, length-map-range_with_len h 0 n, past)),
          )
    ]

pub plans_are_of_all_receipts : PlansAreOfAllReceipts
plans_are_of_all_receipts N table x =
    elim (cases_lt 0 (policy_of N x).sooner) as (λ _. pair_plan N table x ≡ one (whole_data N table x)) [
      | inl some ↦
          let come : row_of N (incoming N x) ≡ row_of N (shipped N x) =
          map-range-same (incoming N x) (shipped N x) (horizon N) (λ t h. omega (arith, when_due-none N x t some)) in
          ap (λ (row : List ℕ). one (record (pair_data N table x) { receipts = row })) (received_sooner-all N x some)
          ∙ ap (λ (row : List ℕ). one (record (whole_data N table x) { arrivals = row })) come
      | inr when_due ↦
          let none : (policy_of N x).sooner ≡ 0 = omega (arith, when_due) in
          sum_is_enough (pair_data N table x) (whole_data N table x) (record {
            params = refl;
            policy = refl;
            gross = refl;
            when_due = none;
            come = λ t. omega (
              arith,
              ap (λ (row : List ℕ). slice_index row t) (received_sooner-none N x none),
              rows_add (incoming N x) (received N x) (shipped N x) (horizon N) (λ u. omega (arith, when_due-all N x u none)) t,
            );
            released = λ t. refl;
          })
    ]
