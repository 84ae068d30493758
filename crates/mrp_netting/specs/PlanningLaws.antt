-- Netting one pair: laws of its plan from one record of planning data.
use Rattle.std.specs.Prelude.{◌≡◌, ℕ, ◌+◌, ◌≤◌, ◌<◌, ◌↔◌, List, length, sum, slice_index, max, All, suc}
use Rattle.mrp_qty.specs.declared.quantity.TheConstants.{MOST}
use Rattle.mrp_lot.specs.Rules.{IsLeastMultiple}
use Rattle.mrp_netting.specs.declared.params.PairParams.{PairParams}
use Rattle.mrp_netting.specs.PlanRows.{PlanRows, sum_from}
use Rattle.mrp_netting.specs.One as today
use Rattle.mrp_netting.specs.Bound.{IsWithin}
use Rattle.mrp_netting.specs.Rules.{FollowsRules}
use Rattle.mrp_netting.specs.PlanningData.{PairData, plain, due, had, need, lot_for, balance_before, one}
use Rattle.mrp_netting.specs.PlanningBound.{IsWithinData, order_quantities}

-- the plan of a pair without policy and firm planned orders is the one that two rows give
abbrev pub PlainIsToday : Type 0
PlainIsToday = (pair : PairParams) (incoming gross : List ℕ) → length incoming ≡ length gross
    → one (plain pair incoming gross) ≡ today.one pair incoming gross

-- so its rows are those that follow the rules, and no others
abbrev pub PlainFollowsRules : Type 0
PlainFollowsRules = (pair : PairParams) (rows : PlanRows) → IsWithin pair rows.incoming rows.gross
    → FollowsRules pair rows ↔ (rows ≡ one (plain pair rows.incoming rows.gross))

-- what receipts are counted by each period
pub record AreCounted (d : PairData) : Type 0 where
  -- none later than it comes
  pub in_time : (t : ℕ) → due d t ≤ had d t
  -- and none more than SOONER periods sooner
  pub soonest : (t : ℕ) → had d t ≤ due d (t + d.policy.sooner)
  -- what was counted stays so
  pub rises : (t : ℕ) → had d t ≤ had d (suc t)
  -- and all are by the last period
  pub all : (t : ℕ) → length d.gross ≡ suc t → had d t ≡ sum d.receipts

abbrev pub ReceiptsAreCounted : Type 0
ReceiptsAreCounted = (d : PairData) → IsWithinData d → AreCounted d

-- over all periods what comes in is receipts, arrivals and firm planned orders
abbrev pub AllComesIn : Type 0
AllComesIn = (d : PairData) → IsWithinData d → sum (one d).incoming ≡ sum d.receipts + sum d.arrivals + sum d.firm_due

-- nothing is ordered while a receipt could still be counted
abbrev pub OrdersComeAfterReceipts : Type 0
OrdersComeAfterReceipts = (d : PairData) (t : ℕ) → IsWithinData d → t < length d.gross → 0 < slice_index (one d).order t
    → had d t ≡ due d (t + d.policy.sooner)

-- safety stock and the gross requirements of the periods of cover are there after each period
abbrev pub AvailableCoversAhead : Type 0
AvailableCoversAhead = (d : PairData) (t : ℕ) → IsWithinData d → t < length d.gross
    → d.params.safety + sum_from d.gross (suc t) d.policy.cover ≤ slice_index (one d).available t

-- what was there, came in and was ordered by a period is required by then or still there
abbrev pub StockIsKept : Type 0
StockIsKept = (d : PairData) (t : ℕ) → IsWithinData d → t < length d.gross
    → d.params.on_hand + sum_from (one d).incoming 0 (suc t) + sum_from (one d).order 0 (suc t)
    ≡ sum_from d.gross 0 (suc t) + slice_index (one d).available t

-- over all periods
abbrev pub StockIsKeptInAll : Type 0
StockIsKeptInAll = (d : PairData) (t : ℕ) → IsWithinData d → length d.gross ≡ suc t
    → d.params.on_hand + sum (one d).incoming + sum (one d).order ≡ sum d.gross + slice_index (one d).available t

-- the order of a period: none without a net requirement, and else the least multiple of MULTIPLE, or of 1, that is
-- below neither the lot nor LEAST
pub record IsOrder (d : PairData) (t ordered : ℕ) : Type 0 where
  pub none : need d (balance_before d t) t 1 ≡ 0 → ordered ≡ 0
  pub some : 0 < need d (balance_before d t) t 1
      → IsLeastMultiple (max d.policy.multiple 1)
      (max (lot_for d.params.rule (need d (balance_before d t) t)) d.policy.least) ordered

abbrev pub OrdersAreLeastMultiples : Type 0
OrdersAreLeastMultiples = (d : PairData) (t : ℕ) → t < length d.gross → IsOrder d t (slice_index (one d).order t)

-- what would come in inside the fence is released by firm planned orders alone
abbrev pub FenceHoldsReleases : Type 0
FenceHoldsReleases = (d : PairData) (u : ℕ) → IsWithinData d → u + d.params.lead < d.policy.fence
    → slice_index (one d).release u ≡ slice_index d.firm_start u

-- what is released is what is ordered, firmly and by the plan
abbrev pub OrdersAreAllReleased : Type 0
OrdersAreAllReleased = (d : PairData) → IsWithinData d → sum (one d).release ≡ sum d.firm_start + sum (one d).order

abbrev pub ReleasesStayBounded : Type 0
ReleasesStayBounded = (d : PairData) → IsWithinData d
    → sum (one d).release ≤ d.params.safety + sum d.gross + order_quantities d + sum d.firm_start

-- no quantity of a plan is above 10^15
pub record AreWithinMost (rows : PlanRows) : Type 0 where
  pub incoming : All (λ quantity. quantity ≤ MOST) rows.incoming
  pub order : All (λ quantity. quantity ≤ MOST) rows.order
  pub release : All (λ quantity. quantity ≤ MOST) rows.release
  pub available : All (λ quantity. quantity ≤ MOST) rows.available

abbrev pub AllRowsStayWithin : Type 0
AllRowsStayWithin = (d : PairData) → IsWithinData d → AreWithinMost (one d)

-- of two pairs that differ in receipts, arrivals and firm planned orders alone, all of whose receipts count when they
-- come: in each period as much comes in and is firmly released
pub record ComeTogether (d e : PairData) : Type 0 where
  pub params : d.params ≡ e.params
  pub policy : d.policy ≡ e.policy
  pub gross : d.gross ≡ e.gross
  pub when_due : d.policy.sooner ≡ 0
  pub come : (t : ℕ) → slice_index d.receipts t + slice_index d.arrivals t + slice_index d.firm_due t
      ≡ slice_index e.receipts t + slice_index e.arrivals t + slice_index e.firm_due t
  pub released : (t : ℕ) → slice_index d.firm_start t ≡ slice_index e.firm_start t

-- they have one plan
abbrev pub SumIsEnough : Type 0
SumIsEnough = (d e : PairData) → ComeTogether d e → one d ≡ one e
