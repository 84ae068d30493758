-- Advice: the open orders of a pair by rising period.
use Rattle.std.proofs.Common.{◌≡◌, ◌∙◌, ℕ, true, false, cond, min, refl, zero, suc, ◌+◌, ◌-◌, ◌<◌, ◌≤◌, ◌==◌, ◌&&◌, Bool, inl, inr, List, [], ◌∷◌}
use Rattle.std.proofs.Common.{◌++◌, length, take, sym, ap, subst, arith, append_assoc}
use Rattle.std.specs.Prelude.{Some}
use Rattle.std.specs.List.{All, filter, flat_map, range_with_len}
use Rattle.std.proofs.Math.Seq.{take-append_seam}
use Rattle.std.proofs.lemmas.Bool.{and_parts, cases_lt, eqb-true, le-leb, leb-true, lt-leb}
use Rattle.std.proofs.lemmas.Grind.{flat_map-append}
use Rattle.std.proofs.lemmas.List.{append-nil, get_or_append_left, get_or-append_right, length-append}
use Rattle.std.proofs.lemmas.List.Elements.{All-append, All-head, All-map, All-tail, All-nil, filter-append, filter_passes}
use Rattle.mrp_grouping.proofs.Grouping.{range-suc}
use Rattle.mrp_grouping.proofs.Sorting.{filter_whole}
use Rattle.mrp_netting.specs.declared.planning_data.Policy.{Policy}
use Rattle.mrp_master_data.specs.declared.rows.FirmRow.{FirmRow}
use Rattle.mrp_master_data.specs.declared.rows.ReceiptRow.{ReceiptRow}
use Rattle.mrp_master_data.specs.declared.rows.ShipRow.{ShipRow}
use Rattle.mrp_master_data.specs.Table.{Table, horizon}
use Rattle.mrp_advice.specs.declared.orders.OpenOrder.{OpenOrder}
use Rattle.mrp_advice.specs.Needed.{pieces_of}
use Rattle.mrp_advice.specs.OpenOrders.{comes_by, firm_order, firms_in, no_order, open_order_at, open_orders, orders_in, receipt_order}
use Rattle.mrp_advice.specs.OpenOrders.{receipts_in, ship_order, ships_in}
use Rattle.mrp_advice.proofs.Sorts.{pieces-le}

-- where none passes, nothing is left
filter_none : {X : Type 0} (p : X → Bool) (xs : List X) → All (λ x. p x ≡ false) xs → filter p xs ≡ []
filter_none p [] none = refl
filter_none {X} p (x ∷ xs) none =
    ap (λ (b : Bool). cond b (x ∷ filter p xs) (filter p xs)) (All-head (λ y. p y ≡ false) x xs none)
    ∙ filter_none p xs (All-tail (λ y. p y ≡ false) x xs none)

module _ (N : Table) (x : ℕ) where
  come_in : (t : ℕ) → All (λ o. o.period ≡ t) (orders_in N x t)
  come_in t =
      let P : OpenOrder → Type 0 = λ o. o.period ≡ t in
      let receipts : ReceiptRow → Bool = λ r. (r.pair.0 == x) && (r.period == t) in
      let ships : ShipRow → Bool = λ s. (s.pair.0 == x) && (s.period == t) in
      let firms : FirmRow → Bool = λ f. (f.pair.0 == x) && (f.due == t) in
      All-append P (receipts_in N x t ++ ships_in N x t) (firms_in N x t)
      (All-append P (receipts_in N x t) (ships_in N x t)
      (All-map P receipt_order (filter receipts N.receipts) (λ k d h. eqb-true _ t (and_parts _ _ (filter_passes receipts N.receipts k d h)).1))
      (All-map P ship_order (filter ships N.ships) (λ k d h. eqb-true _ t (and_parts _ _ (filter_passes ships N.ships k d h)).1)))
      (All-map P firm_order (filter firms N.firms) (λ k d h. eqb-true _ t (and_parts _ _ (filter_passes firms N.firms k d h)).1))

  -- those of the first n periods
  abbrev pub first : ℕ → List OpenOrder
  first n = flat_map (orders_in N x) (range_with_len 0 n)

  one_period : (n : ℕ) → first (suc n) ≡ first n ++ orders_in N x n
  one_period n =
      ap (flat_map (orders_in N x)) (range-suc n)
      ∙ flat_map-append (orders_in N x) (range_with_len 0 n) (n ∷ [])
      ∙ ap (λ (z : List OpenOrder). first n ++ z) (append-nil (orders_in N x n))

  come_before : (n : ℕ) → All (λ o. o.period < n) (first n)
  come_before zero = All-nil (λ o. o.period < zero)
  come_before (suc n) =
      let P : OpenOrder → Type 0 = λ o. o.period < suc n in
      subst (All P) (sym (one_period n))
      (All-append P (first n) (orders_in N x n) (λ k d h. let own = come_before n k d h in omega (arith, own))
      (λ k d h. let own = come_in n k d h in omega (arith, own)))

  -- behind them stand those of the others
  record IsLonger (n all : ℕ) : Type 0 where
    rest : List OpenOrder
    split : first all ≡ first n ++ rest
    later : All (λ o. n ≤ o.period) rest

  longer : (n more : ℕ) → IsLonger n (n + more)
  longer n zero = record {
    rest = [];
    split = ap first (let e : n + zero ≡ n = omega arith in e) ∙ sym (append-nil (first n));
    later = All-nil (λ o. n ≤ o.period);
  }
  longer n (suc more) =
      let shorter = longer n more in
      let P : OpenOrder → Type 0 = λ o. n ≤ o.period in
      record {
        rest = shorter.rest ++ orders_in N x (n + more);
        split = ap first (let e : n + suc more ≡ suc (n + more) = omega arith in e)
            ∙ one_period (n + more)
            ∙ ap (λ (z : List OpenOrder). z ++ orders_in N x (n + more)) shorter.split
            ∙ append_assoc (first n) shorter.rest (orders_in N x (n + more));
        later = All-append P shorter.rest (orders_in N x (n + more)) shorter.later
            (λ k d h. let own = come_in (n + more) k d h in omega (arith, own));
      }

  longer_to : (n all : ℕ) → n ≤ all → IsLonger n all
  longer_to n all less = subst (IsLonger n) (let e : n + (all - n) ≡ all = omega arith in e) (longer n (all - n))

  -- an order of the horizon comes in it
  pub comes_within : (i : ℕ) → i < length (open_orders N x) → (open_order_at (open_orders N x) i).period < horizon N
  comes_within i h = come_before (horizon N) i no_order h

  -- the orders of the first n periods stand before those that come later
  stand_before : (n i : ℕ) → n ≤ horizon N → n ≤ (open_order_at (open_orders N x) i).period → length (first n) ≤ i
  stand_before n i few later =
      let parts = longer_to n (horizon N) few in
      elim (cases_lt i (length (first n))) as (λ _. length (first n) ≤ i) [
        | inl early ↦
            let at : open_order_at (open_orders N x) i ≡ open_order_at (first n) i =
            ap (λ (os : List OpenOrder). open_order_at os i) parts.split ∙ get_or_append_left (first n) parts.rest no_order i early in
            let low = come_before n i no_order early in
            absurd (omega (arith, low, later, ap (λ (o : OpenOrder). o.period) at))
        | inr late ↦ late
      ]

  -- and these behind them
  stand_behind : (n i : ℕ) → n ≤ horizon N → i < length (open_orders N x) → length (first n) ≤ i → n ≤ (open_order_at (open_orders N x) i).period
  stand_behind n i few there past =
      let parts = longer_to n (horizon N) few in
      let within : i - length (first n) < length parts.rest =
      omega (arith, there, past, ap (λ (os : List OpenOrder). length os) parts.split, length-append (first n) parts.rest) in
      let at : open_order_at (open_orders N x) i ≡ open_order_at parts.rest (i - length (first n)) =
      ap (λ (os : List OpenOrder). open_order_at os i) parts.split
      ∙ get_or-append_right (first n) parts.rest (length (first n)) i no_order refl past in
      omega (arith, parts.later (i - length (first n)) no_order within, ap (λ (o : OpenOrder). o.period) at)

  -- so where an order comes by t, those before it do
  pub periods_rise : (i j t : ℕ) → i ≤ j → j < length (open_orders N x) → comes_by (Some t) (open_order_at (open_orders N x) j) ≡ true
      → comes_by (Some t) (open_order_at (open_orders N x) i) ≡ true
  periods_rise i j t less there by =
      let p = (open_order_at (open_orders N x) i).period in
      let q = (open_order_at (open_orders N x) j).period in
      let early : q ≤ t = leb-true q t by in
      elim (cases_lt t p) as (λ _. comes_by (Some t) (open_order_at (open_orders N x) i) ≡ true) [
        | inl late ↦
            let end = comes_within i (omega (arith, less, there)) in
            let first_ends = stand_before (suc t) i (omega (arith, late, end)) late in
            let later = stand_behind (suc t) j (omega (arith, late, end)) there (omega (arith, first_ends, less)) in
            absurd (omega (arith, later, early))
        | inr here ↦ le-leb p t here
      ]

  pub before-le : (policy : Policy) (s : Bool) (i n : ℕ) → i < length (open_orders N x) → n ≤ (open_order_at (open_orders N x) i).period
      → pieces_of policy s (first n) ≤ pieces_of policy s (take i (open_orders N x))
  before-le policy s i n there later =
      let orders = open_orders N x in
      let end = comes_within i there in
      let few : n ≤ horizon N = omega (arith, end, later) in
      let parts = longer_to n (horizon N) few in
      let front : take (length (first n)) orders ≡ first n = ap (take (length (first n))) parts.split ∙ take-append_seam (first n) parts.rest in
      omega (
        arith,
        pieces-le policy s orders (length (first n)) i (stand_before n i few later),
        ap (pieces_of policy s) front,
      )

  -- an order that comes in the first n periods is among the orders of these
  pub with-le : (policy : Policy) (s : Bool) (i n : ℕ) → i < length (open_orders N x) → (open_order_at (open_orders N x) i).period < n
      → n ≤ horizon N → pieces_of policy s (take (i + 1) (open_orders N x)) ≤ pieces_of policy s (first n)
  with-le policy s i n there early few =
      let orders = open_orders N x in
      let parts = longer_to n (horizon N) few in
      let front : take (length (first n)) orders ≡ first n = ap (take (length (first n))) parts.split ∙ take-append_seam (first n) parts.rest in
      elim (cases_lt i (length (first n))) as (λ _. pieces_of policy s (take (i + 1) orders) ≤ pieces_of policy s (first n)) [
        | inl among ↦
            omega (
              arith,
              pieces-le policy s orders (i + 1) (length (first n)) (omega (arith, among)),
              ap (pieces_of policy s) front,
            )
        | inr behind ↦ let later = stand_behind n i few there behind in absurd (omega (arith, later, early))
      ]

  -- the orders of the first periods that come by t
  pub first_by : (n t : ℕ) → filter (comes_by (Some t)) (first n) ≡ first (min n (suc t))
  first_by zero t = ap first (let e : zero ≡ min zero (suc t) = omega arith in e)
  first_by (suc n) t =
      let by : OpenOrder → Bool = comes_by (Some t) in
      let step = ap (filter by) (one_period n) ∙ filter-append by (first n) (orders_in N x n)
      ∙ ap (λ (z : List OpenOrder). z ++ filter by (orders_in N x n)) (first_by n t) in
      elim (cases_lt t n) as (λ _. filter by (first (suc n)) ≡ first (min (suc n) (suc t))) [
        | inl past ↦
            step
            ∙ ap (λ (z : List OpenOrder). first (min n (suc t)) ++ z)
            (filter_none by (orders_in N x n) (λ k d h. let own = come_in n k d h in lt-leb _ t (omega (arith, own, past))))
            ∙ append-nil (first (min n (suc t)))
            ∙ ap first (let e : min n (suc t) ≡ min (suc n) (suc t) = omega (arith, past) in e)
        | inr here ↦
            step
            ∙ ap (λ (z : List OpenOrder). first (min n (suc t)) ++ z)
            (filter_whole by (orders_in N x n) (λ k d h. let own = come_in n k d h in le-leb _ t (omega (arith, own, here))))
            ∙ ap (λ (z : List OpenOrder). z ++ orders_in N x n) (ap first (let e : min n (suc t) ≡ n = omega (arith, here) in e))
            ∙ sym (one_period n)
            ∙ ap first (let e : suc n ≡ min (suc n) (suc t) = omega (arith, here) in e)
      ]
