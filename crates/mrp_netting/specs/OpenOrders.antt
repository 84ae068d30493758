-- Netting one pair: laws of its open orders, which of them its plan needs, when receipts are counted, and the
-- plan without those that it doesn't need. Open orders count in the order in which they come; each is told by
-- the pieces that come before it.
use Rattle.std.specs.Prelude.{◌≡◌, ℕ, ◌+◌, ◌≤◌, ◌<◌, ◌↔◌, ◌⊎◌, length, sum, take, min, suc}
use Rattle.mrp_netting.specs.PlanningData.{PairData, due, lack, short, had, one}
use Rattle.mrp_netting.specs.PlanningBound.{IsWithinData}

-- arrivals and firm planned orders of periods 0 to t
abbrev pub others : PairData → ℕ → ℕ
others d t = sum (take (suc t) d.arrivals) + sum (take (suc t) d.firm_due)

-- a receipt is needed in period t: safety stock and the gross requirements up to t, and of the periods of cover, are
-- above what is on hand, the receipts before it, and what has arrived and is firmly ordered
abbrev pub IsReceiptNeeded : PairData → ℕ → ℕ → Type 0
IsReceiptNeeded d before t = before < lack d t

-- so is an arrival or a firm planned order, if they are above what is on hand, the receipts that are short and come
-- within SOONER periods, and the arrivals and firm planned orders before it
abbrev pub IsOtherNeeded : PairData → ℕ → ℕ → Type 0
IsOtherNeeded d before t =
    d.params.on_hand + min (due d (t + d.policy.sooner)) (short d t) + before
    < d.params.safety + sum (take (suc t + d.policy.cover) d.gross)

-- a receipt counts by period t if it has come, or comes within SOONER periods and is needed by t; and only then
abbrev pub NeededReceiptsAreCounted : Type 0
NeededReceiptsAreCounted = (d : PairData) (before t : ℕ)
    → before < had d t
    ↔ (before < due d t ⊎ (before < due d (t + d.policy.sooner) × ((s : ℕ) × s ≤ t × IsReceiptNeeded d before s)))

-- e is d without the receipts behind the first `receipts` pieces, and without what arrives and is firmly ordered behind
-- the first `rest` pieces
pub record IsWithout (d e : PairData) (receipts rest : ℕ) : Type 0 where
  pub params : e.params ≡ d.params
  pub policy : e.policy ≡ d.policy
  pub gross : e.gross ≡ d.gross
  pub receipts_end : (t : ℕ) → due e t ≡ min (due d t) receipts
  pub others_end : (t : ℕ) → others e t ≡ min (others d t) rest

-- no period needs an order behind so many pieces, or there is none
abbrev pub AreNeedless : PairData → ℕ → ℕ → Type 0
AreNeedless d receipts rest =
    (sum d.receipts ≤ receipts ⊎ ((t : ℕ) → t < length d.gross → IsReceiptNeeded d receipts t → ⊥))
    × (sum d.arrivals + sum d.firm_due ≤ rest ⊎ ((t : ℕ) → t < length d.gross → IsOtherNeeded d rest t → ⊥))

-- without open orders that aren't needed the plan orders the same
abbrev pub NeedlessOrdersChangeNothing : Type 0
NeedlessOrdersChangeNothing = (d e : PairData) (receipts rest : ℕ) → IsWithinData d → IsWithinData e
    → IsWithout d e receipts rest → AreNeedless d receipts rest → (one e).order ≡ (one d).order
