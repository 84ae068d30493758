-- Advice: what a table that goes on has of the open orders of the table before, and of their exception messages.
use Rattle.std.proofs.Common.{◌≡◌, ◌≢◌, ℕ, zero, suc, ◌+◌, ◌-◌, ◌<◌, ◌≤◌, ◌==◌, ◌&&◌, ◌⊎◌, nat_lt, Bool, true, false, cond, List, [], ◌∷◌, ◌++◌, length, map, take, inl, inr, ⊎_elim}
use Rattle.std.proofs.Common.{refl, sym, ap, subst, ◌∙◌, arith, eqb-true, get_or, length-append, zero-add, slice_index}
use Rattle.std.specs.Prelude.{Option, Some, None, Contains, filter_map}
use Rattle.std.specs.List.{All, cons_option, filter, flat_map, range_with_len}
use Rattle.std.proofs.lemmas.Bool.{and_parts, cases_Bool, false≢true, lt-ltb, ltb-true, true≢false}
use Rattle.std.proofs.lemmas.Grind.{flat_map-append}
use Rattle.std.proofs.lemmas.List.{get_or_append_left, take-append-le}
use Rattle.std.proofs.lemmas.List.Elements.{All-head, All-tail, Contains-get_or}
use Rattle.mrp_grouping.proofs.Sorting.{filter-no, filter-yes}
use Rattle.mrp_netting.specs.PlanRows.{PlanRows}
use Rattle.mrp_netting.specs.declared.planning_data.Policy.{Policy}
use Rattle.mrp_master_data.specs.declared.rows.FirmRow.{FirmRow}
use Rattle.mrp_master_data.specs.declared.rows.ReceiptRow.{ReceiptRow}
use Rattle.mrp_master_data.specs.declared.rows.ShipRow.{ShipRow}
use Rattle.mrp_master_data.specs.Table.{IsFirmRow, IsPair, IsTable, Table, horizon}
use Rattle.mrp_net.specs.Plan.{pair_data}
use Rattle.mrp_net.proofs.Members.{Contains-from_in, In, In-filter, In-from_contains, In-range, filter_only, range_only}
use Rattle.mrp_reach.specs.Lengthening.{Lengthens}
use Rattle.mrp_reach.specs.Reach.{receipts_whole}
use Rattle.mrp_reach.proofs.LongerRows.{policy-same}
use Rattle.mrp_reach.proofs.DataReach.{pair_data_agree}
use Rattle.mrp_reach.proofs.WholePeriods.{wholes_grow}
use Rattle.mrp_advice.specs.declared.advice.Action.TheVariants.{Beyond}
use Rattle.mrp_advice.specs.declared.advice.Advice.{Advice}
use Rattle.mrp_advice.specs.declared.orders.OpenOrder.{OpenOrder}
use Rattle.mrp_advice.specs.Actions.{advice_for}
use Rattle.mrp_advice.specs.Advice.{messages_of, pair_advice}
use Rattle.mrp_advice.specs.AdviceLaws.{needed_at}
use Rattle.mrp_advice.specs.Beyond.{advice_within, beyond_for, is_needed_below}
use Rattle.mrp_advice.specs.BeyondLaws.{IsPlannedOn, MessagesStay, NeedsStay, OthersAreNotNeeded}
use Rattle.mrp_advice.specs.OpenOrders.{comes_by, firm_order, firms_in, no_order, open_order_at, open_orders, orders_in, receipt_order, receipts_in, ship_order}
use Rattle.mrp_advice.specs.OpenOrders.{ships_in}
use Rattle.mrp_advice.proofs.Alike.{needed_alike}

-- ---- lists

-- what passes a test passes the other one too
filter_before : {X : Type 0} (p q : X → Bool) (xs : List X) → All (λ x. p x ≡ true → q x ≡ true) xs → filter p (filter q xs) ≡ filter p xs
filter_before p q [] each = refl
filter_before {X} p q (x ∷ xs) each =
    let rest = filter_before p q xs (All-tail (λ (y : X). p y ≡ true → q y ≡ true) x xs each) in
    elim (cases_Bool (q x)) as (λ _. filter p (filter q (x ∷ xs)) ≡ filter p (x ∷ xs)) [
      | inl in_q ↦
          ap (filter p) (filter-yes q x xs in_q) ∙ ap (λ (ys : List X). cond (p x) (x ∷ ys) ys) rest
      | inr not_q ↦ elim (cases_Bool (p x)) as (λ _. filter p (filter q (x ∷ xs)) ≡ filter p (x ∷ xs)) [
        | inl in_p ↦ absurd (true≢false (sym (All-head (λ (y : X). p y ≡ true → q y ≡ true) x xs each in_p) ∙ not_q))
        | inr not_p ↦ ap (filter p) (filter-no q x xs not_q) ∙ rest ∙ sym (filter-no p x xs not_p)
      ]
    ]

flat_same : {X : Type 0} (f g : ℕ → List X) (a n : ℕ) → ((t : ℕ) → t < a + n → f t ≡ g t) → flat_map f (range_with_len a n) ≡ flat_map g (range_with_len a n)
flat_same f g a zero same = refl
flat_same {X} f g a (suc n) same =
    ap (λ (xs : List X). xs ++ flat_map f (range_with_len (a + 1) n)) (same a (omega arith))
    ∙ ap (λ (xs : List X). g a ++ xs) (flat_same f g (a + 1) n (λ t h. same t (omega arith)))

range_join : (a n k : ℕ) → range_with_len a (n + k) ≡ range_with_len a n ++ range_with_len (a + n) k
range_join a zero k =
    let start : a ≡ a + 0 = omega arith in
    ap (range_with_len a) (zero-add k) ∙ ap (λ (b : ℕ). range_with_len b k) start
range_join a (suc n) k =
    let more : suc n + k ≡ suc (n + k) = omega arith in
    let start : a + 1 + n ≡ a + suc n = omega arith in
    ap (range_with_len a) more
    ∙ ap (λ (is : List ℕ). a ∷ is) (range_join (a + 1) n k)
    ∙ ap (λ (b : ℕ). a ∷ (range_with_len (a + 1) n ++ range_with_len b k)) start

in_option : {Y : Type 0} (o : Option Y) (ys : List Y) (y : Y) → In (cons_option o ys) y → (o ≡ Some y) ⊎ In ys y
in_option None ys y h = inr h
in_option {Y} (Some z) ys y h = ⊎_elim (λ (e : z ≡ y). inl (ap (λ (w : Y). Some w) e)) (λ r. inr r) h

option_later : {Y : Type 0} (o : Option Y) (ys : List Y) (y : Y) → In ys y → In (cons_option o ys) y
option_later None ys y h = h
option_later (Some z) ys y h = inr h

filter_map_only : {X Y : Type 0} (f : X → Option Y) (xs : List X) (y : Y) → In (filter_map f xs) y → (x : X) × In xs x × (f x ≡ Some y)
filter_map_only f [] y h = absurd h
filter_map_only f (x ∷ xs) y h = ⊎_elim
    (λ is. (x, inl refl, is))
    (λ r. let c = filter_map_only f xs y r in (c.0, inr c.1, c.2))
    (in_option (f x) (filter_map f xs) y h)

In-filter_map : {X Y : Type 0} (f : X → Option Y) (xs : List X) (x : X) (y : Y) → In xs x → f x ≡ Some y → In (filter_map f xs) y
In-filter_map f [] x y h is = absurd h
In-filter_map {X} {Y} f (z ∷ zs) x y h is = ⊎_elim
    (λ (e : z ≡ x). let here : f z ≡ Some y = ap f e ∙ is in
    subst (λ (o : Option Y). In (cons_option o (filter_map f zs)) y) (sym here) (inl refl))
    (λ r. option_later (f z) (filter_map f zs) y (In-filter_map f zs x y r is))
    h

-- ---- the open orders of a table that goes on

module _ (N M : Table) (later : IsTable M) (goes_on : Lengthens N M) where
  receipts_in-same : (x t : ℕ) → t < horizon N → receipts_in N x t ≡ receipts_in M x t
  receipts_in-same x t within =
      let test : ReceiptRow → Bool = λ r. (r.pair.0 == x) && (r.period == t) in
      ap (λ (rows : List ReceiptRow). map receipt_order (filter test rows)) (sym goes_on.receipts)
      ∙ ap (map receipt_order) (filter_before test (λ r. nat_lt r.period (horizon N)) M.receipts (λ k d h passes.
      let r : ReceiptRow = get_or M.receipts k d in
      let at : r.period ≡ t = eqb-true r.period t (and_parts (r.pair.0 == x) (r.period == t) passes).1 in
      lt-ltb r.period (horizon N) (omega (arith, at, within))))

  ships_in-same : (x t : ℕ) → t < horizon N → ships_in N x t ≡ ships_in M x t
  ships_in-same x t within =
      let test : ShipRow → Bool = λ s. (s.pair.0 == x) && (s.period == t) in
      ap (λ (rows : List ShipRow). map ship_order (filter test rows)) (sym goes_on.ships)
      ∙ ap (map ship_order) (filter_before test (λ s. nat_lt s.period (horizon N)) M.ships (λ k d h passes.
      let s : ShipRow = get_or M.ships k d in
      let at : s.period ≡ t = eqb-true s.period t (and_parts (s.pair.0 == x) (s.period == t) passes).1 in
      lt-ltb s.period (horizon N) (omega (arith, at, within))))

  firms_in-same : (x t : ℕ) → t < horizon N → firms_in N x t ≡ firms_in M x t
  firms_in-same x t within =
      let test : FirmRow → Bool = λ f. (f.pair.0 == x) && (f.due == t) in
      ap (λ (rows : List FirmRow). map firm_order (filter test rows)) (sym goes_on.firms)
      ∙ ap (map firm_order) (filter_before test (λ f. nat_lt f.start (horizon N)) M.firms (λ k d h passes.
      let f : FirmRow = get_or M.firms k d in
      let row : IsFirmRow M f = later.read.firms k d h in
      let at : f.due ≡ t = eqb-true f.due t (and_parts (f.pair.0 == x) (f.due == t) passes).1 in
      lt-ltb f.start (horizon N) (omega (arith, at, within, row.start))))

  orders_in-same : (x t : ℕ) → t < horizon N → orders_in N x t ≡ orders_in M x t
  orders_in-same x t within =
      ap (λ (os : List OpenOrder). os ++ ships_in N x t ++ firms_in N x t) (receipts_in-same x t within)
      ∙ ap (λ (os : List OpenOrder). receipts_in M x t ++ os ++ firms_in N x t) (ships_in-same x t within)
      ∙ ap (λ (os : List OpenOrder). receipts_in M x t ++ ships_in M x t ++ os) (firms_in-same x t within)

  -- those of the periods behind the horizon of the table before
  abbrev behind : ℕ → List OpenOrder
  behind x = flat_map (orders_in M x) (range_with_len (0 + horizon N) (horizon M - horizon N))

  -- come after those of the table before
  orders_front : (x : ℕ) → open_orders M x ≡ open_orders N x ++ behind x
  orders_front x =
      let periods : horizon M ≡ horizon N + (horizon M - horizon N) = omega (arith, goes_on.longer) in
      ap (λ (n : ℕ). flat_map (orders_in M x) (range_with_len 0 n)) periods
      ∙ ap (flat_map (orders_in M x)) (range_join 0 (horizon N) (horizon M - horizon N))
      ∙ flat_map-append (orders_in M x) (range_with_len 0 (horizon N)) (range_with_len (0 + horizon N) (horizon M - horizon N))
      ∙ ap (λ (os : List OpenOrder). os ++ behind x)
      (sym (flat_same (orders_in N x) (orders_in M x) 0 (horizon N) (λ t h. orders_in-same x t (omega arith))))

  order_same : (x i : ℕ) → i < length (open_orders N x) → open_order_at (open_orders M x) i ≡ open_order_at (open_orders N x) i
  order_same x i within =
      ap (λ (os : List OpenOrder). open_order_at os i) (orders_front x) ∙ get_or_append_left (open_orders N x) (behind x) no_order i within

  before_same : (x i : ℕ) → i < length (open_orders N x) → take i (open_orders M x) ≡ take i (open_orders N x)
  before_same x i within = ap (take i) (orders_front x) ∙ take-append-le i (open_orders N x) (behind x) (omega arith)

  order_there : (x i : ℕ) → i < length (open_orders N x) → i < length (open_orders M x)
  order_there x i within =
      omega (
        arith,
        ap (λ (os : List OpenOrder). length os) (orders_front x),
        length-append (open_orders N x) (behind x),
        within,
      )

pub needs_stay : NeedsStay
needs_stay N M plans later wholes longer on x i pair within =
    let order = order_same N M on.later_sized.table on.goes_on x i within in
    record {
      order = order;
      more = order_there N M on.later_sized.table on.goes_on x i within;
      needed = needed_alike (slice_index wholes x) (pair_data N plans x) (pair_data M later x)
          (pair_data_agree N M on.sized.table on.later_sized.table on.sized.loop_free on.goes_on wholes on.are_whole plans later on.fits on.later_fits x pair)
          (open_orders N x) (open_orders M x) i order (before_same N M on.later_sized.table on.goes_on x i within);
    }

-- ---- messages

-- what is needed in one of the first w periods is needed in one of more
below_more : (w v : ℕ) (needed : Option ℕ) → w ≤ v → is_needed_below w needed ≡ true → is_needed_below v needed ≡ true
below_more w v None more is = absurd (false≢true is)
below_more w v (Some t) more is = let below : t < w = ltb-true t w is in lt-ltb t v (omega (arith, below, more))

only_one : (b : Bool) (r a : Advice) → cond b (Some r) None ≡ Some a → r ≡ a
only_one true r a is = cc
only_one false r a is = cc

-- a message that says more than that nothing is known yet is the one without the whole periods, for an order that is
-- needed in one of these
known : (w : ℕ) (order : OpenOrder) (needed : Option ℕ) (a : Advice) → advice_within (Some w) order needed ≡ Some a → a.action ≢ Beyond
    → (is_needed_below w needed ≡ true) × (advice_for order needed ≡ Some a)
known w order needed a is more =
    elim (cases_Bool (is_needed_below w needed)) as (λ _. (is_needed_below w needed ≡ true) × (advice_for order needed ≡ Some a)) [
      | inl t ↦ (t, sym (ap (λ (b : Bool). cond b (advice_for order needed) (beyond_for w order)) t) ∙ is)
      | inr f ↦
          let beyond : beyond_for w order ≡ Some a = sym (ap (λ (b : Bool). cond b (advice_for order needed) (beyond_for w order)) f) ∙ is in
          let said = only_one (nat_lt order.period w) (record { action = Beyond; order = order; needed = None }) a beyond in
          absurd (more (sym (ap (λ (m : Advice). m.action) said)))
    ]

known_there : (v : ℕ) (order : OpenOrder) (needed : Option ℕ) → is_needed_below v needed ≡ true → advice_within (Some v) order needed ≡ advice_for order needed
known_there v order needed t = ap (λ (b : Bool). cond b (advice_for order needed) (beyond_for v order)) t

module _ (N M : Table) (plans later : List PlanRows) (wholes longer : List ℕ) (on : IsPlannedOn N M plans later wholes longer) (x : ℕ) (pair : IsPair N x) where
  abbrev w : ℕ
  w = receipts_whole N x (slice_index wholes x)

  abbrev v : ℕ
  v = receipts_whole M x (slice_index longer x)

  more_whole : w ≤ v
  more_whole =
      omega (
        arith,
        wholes_grow N M on.sized.table on.later_sized.table on.sized.loop_free on.goes_on wholes longer on.are_whole on.are_longer x pair,
        ap (λ (p : Policy). p.cover) (policy-same N M on.goes_on x),
      )

  -- the message for the i-th order
  abbrev message : Option ℕ → Table → List PlanRows → ℕ → Option Advice
  message whole K table i = advice_within whole (open_order_at (open_orders K x) i) (needed_at K table x i)

  stays : (i : ℕ) → i < length (open_orders N x) → (a : Advice) → message (Some w) N plans i ≡ Some a → a.action ≢ Beyond
      → (i < length (open_orders M x)) × (message None M later i ≡ Some a) × (message (Some v) M later i ≡ Some a)
  stays i within a is more =
      let there = needs_stay N M plans later wholes longer on x i pair within in
      let this = known w (open_order_at (open_orders N x) i) (needed_at N plans x i) a is more in
      let same = there.needed.same this.0 in
      let message_is : message None M later i ≡ Some a =
      ap (λ (o : OpenOrder). advice_for o (needed_at M later x i)) there.order
      ∙ ap (advice_for (open_order_at (open_orders N x) i)) same
      ∙ this.1 in
      let needed : is_needed_below v (needed_at M later x i) ≡ true =
      ap (is_needed_below v) same ∙ below_more w v (needed_at N plans x i) more_whole this.0 in
      (there.more, message_is, known_there v (open_order_at (open_orders M x) i) (needed_at M later x i) needed ∙ message_is)

  -- a message of all is one for those orders that come by then
  come : (whole until : Option ℕ) (a : Advice) (i : ℕ) → i < length (open_orders M x) → message whole M later i ≡ Some a
      → comes_by until a.order ≡ true → Contains (filter (λ b. comes_by until b.order) (messages_of whole (needed_at M later x) (open_orders M x))) a
  come whole until a i within is comes =
      let all = messages_of whole (needed_at M later x) (open_orders M x) in
      let here = In-filter_map (message whole M later) (range_with_len 0 (length (open_orders M x))) i a
      (In-range 0 (length (open_orders M x)) i (omega arith) (omega arith)) is in
      let by : Advice → Bool = λ b. comes_by until b.order in
      Contains-from_in (filter by all) a (In-filter by all a here comes)

  message_stays : (until : Option ℕ) (a : Advice) → In (pair_advice (Some wholes) until N plans x) a → a.action ≢ Beyond
      → Contains (pair_advice None until M later x) a × Contains (pair_advice (Some longer) until M later x) a
  message_stays until a h more =
      let by : Advice → Bool = λ b. comes_by until b.order in
      let kept = filter_only by (messages_of (Some w) (needed_at N plans x) (open_orders N x)) a h in
      let found = filter_map_only (message (Some w) N plans) (range_with_len 0 (length (open_orders N x))) a kept.0 in
      let i : ℕ = found.0 in
      let place = range_only 0 (length (open_orders N x)) i found.1 in
      let both = stays i (omega (arith, place.1)) a found.2 more in
      (come None until a i both.0 both.1 kept.1, come (Some v) until a i both.0 both.2 kept.1)

pub messages_stay : MessagesStay
messages_stay N M plans later wholes longer on until x pair k d h =
    let all = pair_advice (Some wholes) until N plans x in
    message_stays N M plans later wholes longer on x pair until (get_or all k d) (In-from_contains all (get_or all k d) (Contains-get_or all k d h))

pub others_are_not_needed : OthersAreNotNeeded
others_are_not_needed N M plans later wholes longer on x i pair within other =
    let whole : ℕ = receipts_whole N x (slice_index wholes x) in
    let order = open_order_at (open_orders N x) i in
    let needed = needed_at N plans x i in
    elim (cases_Bool (is_needed_below whole needed)) as (λ _. is_needed_below whole (needed_at M later x i) ≡ false) [
      | inl t ↦ absurd (other (known_there whole order needed t))
      | inr f ↦ (needs_stay N M plans later wholes longer on x i pair within).needed.none f
    ]
