-- Netting one pair: a second reading of its plan. The rules as equations, period by period, among rows that are given,
-- with the balance before a period read off the projected available.
use Rattle.std.specs.Prelude.{◌≡◌, ℕ, ◌+◌, ◌≤◌, ◌<◌, List, length, sum, slice_index, All, zero, suc}
use Rattle.mrp_qty.specs.declared.quantity.TheConstants.{MOST}
use Rattle.mrp_lot.specs.declared.rule.Rule.TheVariants.{LotForLot, Periods}
use Rattle.mrp_netting.specs.declared.params.PairParams.{PairParams}
use Rattle.mrp_lot.specs.Lot.{IsRule, rule_quantities}
use Rattle.mrp_netting.specs.PlanRows.{PlanRows, late_orders}
use Rattle.mrp_netting.specs.One.{one, need_over, net_after, order_after, release_row}
use Rattle.mrp_netting.specs.Bound.{IsWithin}

-- on hand before period 0, then the projected available
abbrev pub balance_in : PairParams → PlanRows → ℕ → ℕ
balance_in pair rows zero = pair.on_hand
balance_in pair rows (suc t) = slice_index rows.available t

pub record FollowsRules (pair : PairParams) (rows : PlanRows) : Type 0 where
  pub incoming_len : length rows.incoming ≡ length rows.gross
  pub order_len : length rows.order ≡ length rows.gross
  pub available_len : length rows.available ≡ length rows.gross
  -- what the lot rule orders for the net requirement
  pub order : (t : ℕ) → t < length rows.gross
      → slice_index rows.order t ≡ order_after pair rows.incoming rows.gross (balance_in pair rows t) t
  -- what was there, comes in and is ordered is required or stays
  pub available : (t : ℕ) → t < length rows.gross
      → slice_index rows.available t + slice_index rows.gross t ≡ balance_in pair rows t + slice_index rows.incoming t
      + slice_index rows.order t
  -- orders are released a lead time before they are due, at the earliest in period 0
  pub release : rows.release ≡ release_row pair.lead rows.order
  -- and are late where that would have been before period 0
  pub late : rows.late ≡ late_orders pair.lead rows.order

-- lot for lot orders exactly the net requirement of each period, also where that is 0
abbrev pub LotForLotOrdersTheNeed : Type 0
LotForLotOrdersTheNeed = (pair : PairParams) (incoming gross : List ℕ) (before t : ℕ) → pair.rule ≡ LotForLot
    → order_after pair incoming gross before t ≡ net_after pair incoming gross before t

-- an order that is the greatest need over 1 to k periods from t on, within the horizon
pub record IsGreatestNeed (pair : PairParams) (incoming gross : List ℕ) (before t k ordered : ℕ) : Type 0 where
  -- none of them is above it
  pub covers : (n : ℕ) → 1 ≤ n → n ≤ k → t + n ≤ length gross → need_over pair incoming gross before t n ≤ ordered
  -- and one of them is it
  pub attained : (n : ℕ) × (1 ≤ n) × (n ≤ k) × (t + n ≤ length gross)
      × (ordered ≡ need_over pair incoming gross before t n)

-- periods of supply order the greatest need over so many periods, once there is a net requirement
abbrev pub PeriodsIsGreatest : Type 0
PeriodsIsGreatest = (pair : PairParams) (incoming gross : List ℕ) (before t k : ℕ) → pair.rule ≡ Periods k → 1 ≤ k
    → t < length gross
    → 0 < net_after pair incoming gross before t
    → IsGreatestNeed pair incoming gross before t k (order_after pair incoming gross before t)

-- whatever the rule, nothing is ordered in a period without a net requirement
abbrev pub NothingIsOrderedWithoutANeed : Type 0
NothingIsOrderedWithoutANeed = (pair : PairParams) (incoming gross : List ℕ) (before t : ℕ)
    → net_after pair incoming gross before t ≡ 0
    → order_after pair incoming gross before t ≡ 0

-- the order of each period covers its net requirement, whose span is of the pair's own needs
abbrev pub OrderCoversTheNeed : Type 0
OrderCoversTheNeed = (pair : PairParams) (incoming gross : List ℕ) (before t : ℕ) → IsRule pair.rule → t < length gross
    → net_after pair incoming gross before t ≤ order_after pair incoming gross before t

-- projected available is never below safety stock; with safety stock 0 this says nothing, and `FollowsRules.available`
-- does
abbrev pub AvailableCoversSafety : Type 0
AvailableCoversSafety = (pair : PairParams) (incoming gross : List ℕ) → IsWithin pair incoming gross
    → All (λ stock. pair.safety ≤ stock) (one pair incoming gross).available

abbrev pub OrdersAreReleased : Type 0
OrdersAreReleased = (pair : PairParams) (incoming gross : List ℕ)
    → sum (one pair incoming gross).release ≡ sum (one pair incoming gross).order

abbrev pub ReleasesAreBounded : Type 0
ReleasesAreBounded = (pair : PairParams) (incoming gross : List ℕ) → IsWithin pair incoming gross
    → sum (one pair incoming gross).release ≤ pair.safety + rule_quantities pair.rule + sum gross

abbrev pub RowsStayWithin : Type 0
RowsStayWithin = (pair : PairParams) (incoming gross : List ℕ) → IsWithin pair incoming gross
    → All (λ quantity. quantity ≤ MOST) (one pair incoming gross).order
    × All (λ quantity. quantity ≤ MOST) (one pair incoming gross).release
    × All (λ quantity. quantity ≤ MOST) (one pair incoming gross).available

-- the plan follows the rules
abbrev pub PlanFollowsRules : Type 0
PlanFollowsRules = (pair : PairParams) (incoming gross : List ℕ) → IsWithin pair incoming gross
    → FollowsRules pair (one pair incoming gross)

-- and nothing else does
abbrev pub RulesHaveOnePlan : Type 0
RulesHaveOnePlan = (pair : PairParams) (rows : PlanRows) → IsWithin pair rows.incoming rows.gross
    → FollowsRules pair rows
    → rows ≡ one pair rows.incoming rows.gross
