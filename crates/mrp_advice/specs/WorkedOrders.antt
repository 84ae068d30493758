-- Advice: open orders that were gone through by hand, and the periods in which they are needed.
use Rattle.std.specs.Prelude.{◌≡◌, ℕ, List, [], ◌∷◌, length, map, Option, Some, None}
use Rattle.std.specs.List.{range_with_len}
use Rattle.mrp_netting.specs.PlanningData.{PairData, no_policy}
use Rattle.mrp_netting.specs.WorkedPairs.{counted_sooner, covered_ahead, five}
use Rattle.mrp_advice.specs.declared.advice.Action.TheVariants.{Expedite}
use Rattle.mrp_advice.specs.declared.orders.OpenOrder.{OpenOrder}
use Rattle.mrp_advice.specs.declared.orders.OrderKind.{OrderKind}
use Rattle.mrp_advice.specs.declared.orders.OrderKind.TheVariants.{Firm, Receipt, Ship}
use Rattle.mrp_advice.specs.Advice.{messages}
use Rattle.mrp_advice.specs.Needed.{needed}

abbrev pub order_of : OrderKind → ℕ → ℕ → OpenOrder
order_of kind period quantity = record { kind = kind; pair = record { 0 = 0 }; period = period; quantity = quantity }

-- a receipt of 60 in 3 of which 40 are short in 1 is to be expedited
abbrev pub SixtyAreExpedited : Type 0
SixtyAreExpedited = messages None counted_sooner (order_of Receipt 3 60 ∷ [])
    ≡ record { action = Expedite; order = order_of Receipt 3 60; needed = Some 1 } ∷ []

-- when each of these orders is needed
abbrev pub needs : PairData → List OpenOrder → List (Option ℕ)
needs d orders = map (needed d orders) (range_with_len 0 (length orders))

-- a shipment from another plant
abbrev pub shipment : OrderKind
shipment = Ship (record { 0 = 1 })

-- receipts of 30 in 2 and in 4, a shipment of 20 in 3 and a firm planned order of 15 that is due in 4
abbrev pub four_orders : List OpenOrder
four_orders = order_of Receipt 2 30 ∷ order_of shipment 3 20 ∷ order_of Receipt 4 30 ∷ order_of Firm 4 15 ∷ []

-- the pair with these orders, its receipts counted up to 2 periods sooner
abbrev pub with_four : PairData
with_four = record counted_sooner {
  receipts = five 0 0 30 0 30;
  arrivals = five 0 0 0 20 0;
  firm_start = five 0 0 0 0 15;
  firm_due = five 0 0 0 0 15;
}

-- 40 are short in 1: both receipts are needed there, and since only the first can be counted by then, so is the
-- shipment
abbrev pub FourAreNeeded : Type 0
FourAreNeeded = needs with_four four_orders ≡ Some 1 ∷ Some 1 ∷ Some 1 ∷ None ∷ []

-- the same orders where receipts count when they come: each is needed once those before it don't suffice
abbrev pub FourAreNeededByBalance : Type 0
FourAreNeededByBalance =
    needs (record with_four { policy = no_policy; receipts = []; arrivals = five 0 0 30 20 30 }) four_orders
    ≡ Some 1 ∷ Some 1 ∷ Some 3 ∷ None ∷ []

-- with a period of cover 10 are asked by 0, 30 by 1 and 35 by 2, and 10 are on hand
abbrev pub CoveredAheadAreNeeded : Type 0
CoveredAheadAreNeeded =
    needs (record covered_ahead {
      arrivals = five 0 0 20 5 0;
      firm_start = five 0 0 10 0 0;
      firm_due = five 0 0 0 0 10;
    }) (order_of Receipt 2 20 ∷ order_of shipment 3 5 ∷ order_of Firm 4 10 ∷ [])
    ≡ Some 1 ∷ Some 2 ∷ None ∷ []

-- that pair with receipts that are counted up to 2 periods sooner: 20 of them are short in 1 and 25 in 2, so the shipment
-- isn't needed
abbrev pub CoveredSoonerAreNeeded : Type 0
CoveredSoonerAreNeeded =
    needs (record covered_ahead {
      policy = record no_policy { sooner = 2; cover = 1 };
      receipts = five 0 0 0 20 10;
      arrivals = five 0 0 0 0 5;
    }) (order_of Receipt 3 20 ∷ order_of Receipt 4 10 ∷ order_of shipment 4 5 ∷ [])
    ≡ Some 1 ∷ Some 2 ∷ None ∷ []

-- 10 are on hand, and 50 are asked by 1 and 80 by 3: the shipment and the firm planned order suffice till 3, where both
-- receipts are needed. In 1 none of them is short, also not that of 0, so the other two are needed
abbrev pub ReceiptsAreNeededBehindOthers : Type 0
ReceiptsAreNeededBehindOthers =
    needs (record counted_sooner {
      receipts = five 25 0 0 0 30;
      arrivals = five 0 20 0 0 0;
      firm_start = five 20 0 0 0 0;
      firm_due = five 0 20 0 0 0;
    }) (order_of Receipt 0 25 ∷ order_of shipment 1 20 ∷ order_of Firm 1 20 ∷ order_of Receipt 4 30 ∷ [])
    ≡ Some 3 ∷ Some 1 ∷ Some 1 ∷ Some 3 ∷ []

-- 40 of the receipts are short by 1 and suffice till 3, so the shipment of 2 is needed there. By 3 60 are short, and with
-- the shipment they suffice, so the firm planned order isn't needed
abbrev pub OthersAreNeededBehindReceipts : Type 0
OthersAreNeededBehindReceipts =
    needs (record counted_sooner {
      receipts = five 0 0 0 40 30;
      arrivals = five 0 0 10 0 0;
      firm_start = five 0 0 20 0 0;
      firm_due = five 0 0 0 0 20;
    }) (order_of shipment 2 10 ∷ order_of Receipt 3 40 ∷ order_of Receipt 4 30 ∷ order_of Firm 4 20 ∷ [])
    ≡ Some 3 ∷ Some 1 ∷ Some 3 ∷ None ∷ []
