-- Netting one pair: its plan from one record of its planning data, period by period, the record of an item in Orlicky's
-- Material Requirements Planning (1975), with firm planned orders, a planning time fence, receipts that may be counted
-- sooner, periods of cover, and the order modifiers minimum and multiple. Terms are those of the APICS Dictionary.
--
-- Rows have the pieces of periods 0, 1, ..; past its end a row has none, so all sums stop at the horizon. Subtraction
-- of ℕ stops at 0.
use Rattle.std.specs.Prelude.{ℕ, ◌+◌, ◌-◌, ◌==◌, nat_lt, if◌then◌else◌, min, max, List, [], length, map}
use Rattle.std.specs.Prelude.{sum, take, slice_index, zero, suc}
use Rattle.std.specs.List.{range_with_len}
use Rattle.mrp_lot.specs.declared.rule.Rule.{Rule}
use Rattle.mrp_lot.specs.declared.rule.Rule.TheVariants.{LotForLot, Fixed, Periods, MinMultiple}
use Rattle.mrp_lot.specs.Lot.{least_multiple_of}
use Rattle.mrp_netting.specs.declared.params.PairParams.{PairParams}
use Rattle.mrp_netting.specs.declared.planning_data.Policy.{Policy}
use Rattle.mrp_netting.specs.PlanRows.{PlanRows, sum_from, late_orders}

-- what a pair is planned from
pub record PairData : Type 0 where
  pub params : PairParams
  pub policy : Policy
  -- scheduled receipts of open orders
  pub receipts : List ℕ
  -- what comes from other plants
  pub arrivals : List ℕ
  -- firm planned orders by the period of their release, and by the period in which they are due
  pub firm_start : List ℕ
  pub firm_due : List ℕ
  -- gross requirements
  pub gross : List ℕ

-- what planners say of a pair: its row, how it is planned beyond that, and its firm planned orders by release and by
-- due period
pub record PairTerms : Type 0 where
  pub params : PairParams
  pub policy : Policy
  -- scheduled receipts that may be counted sooner than they come
  pub receipts : List ℕ
  pub firm_start : List ℕ
  pub firm_due : List ℕ

-- a pair of these terms: `incoming` has what comes in at its time, receipts that may be counted sooner are among the
-- terms
abbrev pub planned : PairTerms → List ℕ → List ℕ → PairData
planned terms incoming gross = record {
  params = terms.params;
  policy = terms.policy;
  receipts = terms.receipts;
  arrivals = incoming;
  firm_start = terms.firm_start;
  firm_due = terms.firm_due;
  gross = gross;
}

abbrev pub no_policy : Policy
no_policy = record { fence = 0; sooner = 0; cover = 0; least = 0; multiple = 0 }

-- a pair without a policy and without firm planned orders, all of whose receipts count when they come
abbrev pub plain : PairParams → List ℕ → List ℕ → PairData
plain pair incoming gross = record {
  params = pair;
  policy = no_policy;
  receipts = [];
  arrivals = incoming;
  firm_start = [];
  firm_due = [];
  gross = gross;
}

-- receipts of periods 0 to t
abbrev pub due : PairData → ℕ → ℕ
due d t = sum (take (suc t) d.receipts)

-- what period s lacks with no receipt at all and no planned order: safety stock and the gross requirements up to it,
-- and of the periods of cover, beyond what is on hand, has arrived and is firmly ordered
abbrev pub lack : PairData → ℕ → ℕ
lack d s = (d.params.safety + sum (take (suc s + d.policy.cover) d.gross))
    - (d.params.on_hand + sum (take (suc s) d.arrivals) + sum (take (suc s) d.firm_due))

-- the greatest lack of periods 0 to t
unfoldable pub short : PairData → ℕ → ℕ
short d zero = lack d zero
short d (suc t) = max (short d t) (lack d (suc t))

-- receipts that are counted by period t: those that are due, and of those of the next SOONER periods what is short
abbrev pub had : PairData → ℕ → ℕ
had d t = max (due d t) (min (due d (t + d.policy.sooner)) (short d t))

abbrev pub had_before : PairData → ℕ → ℕ
had_before d zero = 0
had_before d (suc t) = had d t

-- scheduled receipts of period t: what is counted in it, arrives, and comes from firm planned orders
unfoldable pub incoming_at : PairData → ℕ → ℕ
incoming_at d t = (had d t - had_before d t) + slice_index d.arrivals t + slice_index d.firm_due t

abbrev pub incoming_row : PairData → List ℕ
incoming_row d = map (incoming_at d) (range_with_len 0 (length d.gross))

-- the net requirement of the n periods from t on together: safety stock, their gross requirements and those of the
-- periods of cover, less `before`, the balance before t, and their scheduled receipts
abbrev pub need : PairData → ℕ → ℕ → ℕ → ℕ
need d before t n = (d.params.safety + sum_from d.gross t (n + d.policy.cover))
    - (before + sum_from (incoming_row d) t n)

-- the greatest of the needs of 1 to n periods
unfoldable pub greatest : (ℕ → ℕ) → ℕ → ℕ
greatest needs zero = 0
greatest needs (suc n) = max (greatest needs n) (needs (suc n))

-- what the lot rule orders for the needs of 1, 2, .. periods
abbrev pub lot_for : Rule → (ℕ → ℕ) → ℕ
lot_for LotForLot needs = needs 1
lot_for (Fixed q) needs = least_multiple_of q (needs 1)
lot_for (Periods k) needs = greatest needs k
lot_for (MinMultiple m k) needs = least_multiple_of k (max (needs 1) m)

-- an order made up to the policy's minimum and multiple; the multiple has the last word
abbrev pub made_up : Policy → ℕ → ℕ
made_up policy lot = least_multiple_of (max policy.multiple 1) (max lot policy.least)

-- planned order receipt of period t: none without a net requirement, else the lot, made up
abbrev pub order_after : PairData → ℕ → ℕ → ℕ
order_after d before t =
    let needs = need d before t in
    if needs 1 == 0 then 0 else made_up d.policy (lot_for d.params.rule needs)

-- projected available after period t. The order covers safety and the gross requirement, so the difference cuts
-- nothing off
abbrev pub available_after : PairData → ℕ → ℕ → ℕ
available_after d before t = (before + incoming_at d t + order_after d before t) - slice_index d.gross t

-- the balance before period t: on hand before period 0, then the projected available
unfoldable pub balance_before : PairData → ℕ → ℕ
balance_before d zero = d.params.on_hand
balance_before d (suc t) = available_after d (balance_before d t) t

-- planned order receipt of period t
unfoldable pub order_at : PairData → ℕ → ℕ
order_at d t = order_after d (balance_before d t) t

abbrev pub order_row : PairData → List ℕ
order_row d = map (order_at d) (range_with_len 0 (length d.gross))

abbrev pub available_row : PairData → List ℕ
available_row d = map (λ t. balance_before d (suc t)) (range_with_len 0 (length d.gross))

-- the first period for which planned orders can be released in time: the greater of lead time and fence
abbrev pub earliest : PairData → ℕ
earliest d = max d.params.lead d.policy.fence

-- what of the planned orders is released in period u: those due a lead time later, and in the first period in which
-- any is released, also all that are due before those
abbrev pub planned_release : PairData → List ℕ → ℕ → ℕ
planned_release d order u =
    let due_in = u + d.params.lead in
    if nat_lt due_in (earliest d) then 0
    else if due_in == earliest d then sum (take (suc due_in) order)
    else slice_index order due_in

-- firm and planned orders that are released in period u
abbrev pub release_at : PairData → List ℕ → ℕ → ℕ
release_at d order u = slice_index d.firm_start u + planned_release d order u

abbrev pub release_row : PairData → List ℕ → List ℕ
release_row d order = map (release_at d order) (range_with_len 0 (length d.gross))

-- the plan of one pair
unfoldable pub one : PairData → PlanRows
one d =
    let order = order_row d in
    record {
      gross = d.gross;
      incoming = incoming_row d;
      order = order;
      release = release_row d order;
      available = available_row d;
      late = late_orders (earliest d) order;
    }
