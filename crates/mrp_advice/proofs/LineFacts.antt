-- Advice: the rows of a pair's exception messages, open order by open order.
use Rattle.std.proofs.Common.{◌≡◌, ◌∙◌, ℕ, zero, suc, ◌+◌, ◌<◌, ◌≤◌, nat_lt, Bool, true, false, cond, List, [], ◌∷◌, ◌++◌, length, take, slice_index}
use Rattle.std.proofs.Common.{refl, sym, ap, subst, arith, add-one, append_assoc}
use Rattle.std.specs.Prelude.{Option, Some, None, IfSome, filter_map}
use Rattle.std.specs.List.{cons_option, filter, find, flat_map, range_with_len, sum_by}
use Rattle.std.proofs.lemmas.Bool.{cond_both}
use Rattle.std.proofs.lemmas.Grind.{flat_map-append}
use Rattle.std.proofs.lemmas.List.{append-nil}
use Rattle.std.proofs.lemmas.List.Elements.{filter-append, filter_map-append}
use Rattle.std.proofs.lemmas.List.FromFn.{length-map-range_with_len}
use Rattle.std.proofs.lemmas.List.Sums.{sum_by_more_le}
use Rattle.mrp_qty.specs.declared.quantity.TheConstants.{MOST}
use Rattle.mrp_grouping.proofs.Grouping.{range-suc}
use Rattle.mrp_netting.specs.PlanRows.{PlanRows}
use Rattle.mrp_netting.specs.declared.planning_data.Policy.{Policy}
use Rattle.mrp_master_data.specs.Table.{Table, IsPair, horizon}
use Rattle.mrp_net.specs.Plan.{pair_data}
use Rattle.mrp_net.specs.Policies.{policy_of}
use Rattle.mrp_loops.specs.Sized.{IsSized}
use Rattle.mrp_csv_out.specs.Dates.{dates_of, period_date}
use Rattle.mrp_csv_out.specs.Names.{item_of, plant_of}
use Rattle.mrp_advice.specs.declared.advice.Advice.{Advice}
use Rattle.mrp_advice.specs.declared.lacks.Lacks.{Lacks}
use Rattle.mrp_advice.specs.declared.orders.OpenOrder.{OpenOrder}
use Rattle.mrp_advice.specs.declared.advice_report.AdviceLine.{AdviceLine}
use Rattle.mrp_advice.specs.declared.run_out.RunOuts.{RunOuts}
use Rattle.mrp_advice.specs.Advice.{messages_by}
use Rattle.mrp_advice.specs.Beyond.{advice_within, needs_whole}
use Rattle.mrp_advice.specs.AdviceLines.{IsAdvice, IsAdvised, IsAdviceLine, IsOpenOrder, advice_line_row, advice_line_text, message_text}
use Rattle.mrp_advice.specs.Lacking.{AreLacks, HaveRoom, first_lacking, lacks_of, needed_by, run_out_of}
use Rattle.mrp_advice.specs.Needed.{may_come_sooner, needed, pieces_of}
use Rattle.mrp_advice.specs.OpenOrders.{comes_by, no_order, open_order_at, open_orders}
use Rattle.mrp_advice.specs.AdviceRows.{advice_row, pair_advice_text}
use Rattle.mrp_advice.proofs.BeyondFacts.{said_within}
use Rattle.mrp_advice.proofs.Coming.{open_in_table, orders-le}
use Rattle.mrp_advice.proofs.LackFacts.{needed_by_is}
use Rattle.mrp_advice.proofs.Messages.{messages_same}
use Rattle.mrp_advice.proofs.Sorts.{pieces_more, some-le, weight}

-- ---- a message names periods of the horizon

find_within : (p : ℕ → Bool) (a n end : ℕ) → a + n ≤ end → IfSome (find p (range_with_len a n)) (λ t. t < end)
find_within p a zero end low = tt
find_within p a (suc n) end low =
    cond_both (p a) (Some a) (find p (range_with_len (a + 1) n)) (λ (o : Option ℕ). IfSome o (λ t. t < end))
    (λ here. let small : a < end = omega arith in small)
    (λ later. find_within p (a + 1) n end (omega arith))

pub advice_is : (N : Table) (whole : Option ℕ) (order : OpenOrder) (row : List ℕ) (pieces : ℕ) (advice : Option Advice) → length row ≡ horizon N
    → IsOpenOrder N order
    → advice ≡ advice_within whole order (first_lacking row pieces) → IfSome advice (IsAdvice N)
advice_is N whole order row pieces advice periods is same =
    let t = first_lacking row pieces in
    let within : IfSome t (λ u. u < horizon N) =
    find_within (λ u. nat_lt pieces (slice_index row u)) 0 (length row) (horizon N) (omega (arith, periods)) in
    subst (λ (o : Option Advice). IfSome o (IsAdvice N)) (sym same)
    (said_within (IsAdvice N) whole order t (λ action. record { order = is; needed = within }) (record { order = is; needed = tt }))

-- the row of either sort has the periods of the horizon
pub sort_periods : (N : Table) (lacks : Lacks) (s : Bool) → HaveRoom (horizon N) lacks → length (lacks_of lacks s) ≡ horizon N
sort_periods N lacks true room = room.receipts
sort_periods N lacks false room = room.others

-- ---- one open order more

-- the message is for an order that comes by the last period of the line
abbrev pub has_row : AdviceLine → Advice → Bool
has_row line advice = comes_by line.until advice.order

row_of_one : (f : Advice → List ℕ) (advice : Advice) (b : Bool) → flat_map f (cond b (advice ∷ []) []) ≡ cond b (f advice) []
row_of_one f advice true = append-nil (f advice)
row_of_one f advice false = refl

one_row : (line : AdviceLine) (o : Option Advice) → flat_map (advice_line_row line) (filter (has_row line) (cons_option o [])) ≡ message_text line o
one_row line None = refl
one_row line (Some advice) = row_of_one (advice_line_row line) advice (has_row line advice)

module _ (line : AdviceLine) (policy : Policy) (lacks : Lacks) (orders : List OpenOrder) (i : ℕ) (order : OpenOrder)
    (same : order ≡ open_order_at orders i) where
  -- there is room for one order more
  pub room_next : (s : Bool) (now : ℕ) → i < length orders → now ≡ pieces_of policy s (take i orders) → sum_by (λ o. o.quantity) orders ≤ MOST
      → now + order.quantity ≤ MOST
  room_next s now within is few =
      omega (
        arith,
        is,
        ap (λ (o : OpenOrder). o.quantity) same,
        some-le policy s (take i orders),
        sum_by_more_le (λ (o : OpenOrder). o.quantity) orders i no_order within,
        few,
      )

  -- the pieces of each sort, one order further
  pub receipts_next : (now after : ℕ) → i < length orders → now ≡ pieces_of policy true (take i orders)
      → after ≡ now + cond (may_come_sooner policy order) order.quantity 0 → after ≡ pieces_of policy true (take (i + 1) orders)
  receipts_next now after within is grown =
      omega (arith, is, grown, ap (weight policy true) same, pieces_more policy true orders i within)

  pub others_next : (now after : ℕ) → i < length orders → now ≡ pieces_of policy false (take i orders)
      → after ≡ now + cond (may_come_sooner policy order) 0 order.quantity → after ≡ pieces_of policy false (take (i + 1) orders)
  others_next now after within is grown =
      omega (arith, is, grown, ap (weight policy false) same, pieces_more policy false orders i within)

  abbrev advised : ℕ → Option Advice
  advised k = advice_within line.whole (open_order_at orders k) (needed_by policy lacks orders k)

  abbrev so_far : ℕ → List Advice
  so_far n = filter (has_row line) (filter_map advised (range_with_len 0 n))

  one_more : so_far (i + 1) ≡ so_far i ++ filter (has_row line) (cons_option (advised i) [])
  one_more =
      ap so_far (add-one i)
      ∙ ap (λ (is : List ℕ). filter (has_row line) (filter_map advised is)) (range-suc i)
      ∙ ap (filter (has_row line)) (filter_map-append advised (range_with_len 0 i) (i ∷ []))
      ∙ filter-append (has_row line) (filter_map advised (range_with_len 0 i)) (cons_option (advised i) [])

  run_to : (run_outs : RunOuts) → run_outs.receipts.pieces ≡ pieces_of policy true (take i orders)
      → run_outs.others.pieces ≡ pieces_of policy false (take i orders) → (s : Bool) → (run_out_of run_outs s).pieces ≡ pieces_of policy s (take i orders)
  run_to run_outs receipts others true = receipts
  run_to run_outs receipts others false = others

  -- the message for the order, by how long the orders before it last
  message : (run_outs : RunOuts) → run_outs.receipts.pieces ≡ pieces_of policy true (take i orders)
      → run_outs.others.pieces ≡ pieces_of policy false (take i orders)
      → advice_within line.whole order (first_lacking (lacks_of lacks (may_come_sooner policy order)) (run_out_of run_outs (may_come_sooner policy order)).pieces)
      ≡ advised i
  message run_outs receipts others =
      let by : Bool → Option ℕ = λ s. first_lacking (lacks_of lacks s) (pieces_of policy s (take i orders)) in
      let sort = may_come_sooner policy order in
      ap (λ (n : ℕ). advice_within line.whole order (first_lacking (lacks_of lacks sort) n)) (run_to run_outs receipts others sort)
      ∙ ap (λ (o : OpenOrder). advice_within line.whole o (by (may_come_sooner policy o))) same

  pub rows_next : (run_outs : RunOuts) (before now after : List ℕ) → run_outs.receipts.pieces ≡ pieces_of policy true (take i orders)
      → run_outs.others.pieces ≡ pieces_of policy false (take i orders) → now ≡ before ++ flat_map (advice_line_row line) (so_far i)
      → after ≡ now ++ message_text line (advice_within line.whole order (first_lacking (lacks_of lacks (may_come_sooner policy order))
      (run_out_of run_outs (may_come_sooner policy order)).pieces))
      → after ≡ before ++ flat_map (advice_line_row line) (so_far (i + 1))
  rows_next run_outs before now after receipts others written grown =
      let advice = advised i in
      let rows = flat_map (advice_line_row line) in
      grown
      ∙ ap (λ (o : Option Advice). now ++ message_text line o) (message run_outs receipts others)
      ∙ ap (λ (z : List ℕ). z ++ message_text line advice) written
      ∙ append_assoc before (rows (so_far i)) (message_text line advice)
      ∙ ap (λ (z : List ℕ). before ++ (rows (so_far i) ++ z)) (sym (one_row line advice))
      ∙ ap (λ (z : List ℕ). before ++ z) (sym (flat_map-append (advice_line_row line) (so_far i) (filter (has_row line) (cons_option advice []))))
      ∙ ap (λ (z : List Advice). before ++ rows z) (sym one_more)

-- ---- the rows of a line are those of its pair

pub line_is_pair : (N : Table) (table : List PlanRows) (x : ℕ) (wholes : Option (List ℕ)) (until : Option ℕ) (line : AdviceLine) (policy : Policy)
    (lacks : Lacks) (orders : List OpenOrder) → IsAdviceLine N x wholes until line
    → policy ≡ policy_of N x → AreLacks (pair_data N table x) lacks → orders ≡ open_orders N x
    → advice_line_text line (needed_by policy lacks orders) orders ≡ pair_advice_text wholes until N table x
unfolding pair_advice_text
line_is_pair N table x wholes until line policy lacks orders is policy_is are mine =
    let needs = needed_by policy lacks orders in
    let whole = needs_whole wholes N x in
    let rows : Table → List ℕ → List ℕ → List (List ℕ) → Option ℕ → Option ℕ → List ℕ =
    λ n p i d w u. flat_map (advice_row n p i d) (messages_by w u needs orders) in
    let own : List Advice → List ℕ = flat_map (advice_row N (plant_of N x) (item_of N x) (dates_of N.calendar)) in
    ap (λ (n : Table). rows n line.plant.now line.item.now line.dates.now line.whole line.until) is.network
    ∙ ap (λ (p : List ℕ). rows N p line.item.now line.dates.now line.whole line.until) is.plant
    ∙ ap (λ (i : List ℕ). rows N (plant_of N x) i line.dates.now line.whole line.until) is.item
    ∙ ap (λ (d : List (List ℕ)). rows N (plant_of N x) (item_of N x) d line.whole line.until) is.dates
    ∙ ap (λ (w : Option ℕ). rows N (plant_of N x) (item_of N x) (dates_of N.calendar) w line.until) is.whole
    ∙ ap (λ (u : Option ℕ). rows N (plant_of N x) (item_of N x) (dates_of N.calendar) whole u) is.by_then
    ∙ ap (λ (p : Policy). own (messages_by whole until (needed_by p lacks orders) orders)) policy_is
    ∙ ap own (messages_same whole until (needed_by (policy_of N x) lacks orders) (needed (pair_data N table x) orders) orders
    (λ i. needed_by_is (pair_data N table x) orders i lacks are))
    ∙ ap (λ (o : List OpenOrder). own (messages_by whole until (needed (pair_data N table x) o) o)) mine

-- a pair without open orders has no rows
pub no_messages : (N : Table) (table : List PlanRows) (x : ℕ) (wholes : Option (List ℕ)) (until : Option ℕ) (orders : List OpenOrder)
    → orders ≡ open_orders N x → length orders ≡ 0 → pair_advice_text wholes until N table x ≡ []
unfolding pair_advice_text
no_messages N table x wholes until [] mine none =
    ap (λ (o : List OpenOrder). flat_map (advice_row N (plant_of N x) (item_of N x) (dates_of N.calendar))
    (messages_by (needs_whole wholes N x) until (needed (pair_data N table x) o) o)) (sym mine)
no_messages N table x wholes until (o ∷ os) mine none = absurd (omega (arith, none))

-- a date for each period
pub line_has_dates : (N : Table) (x : ℕ) (wholes : Option (List ℕ)) (until : Option ℕ) (line : AdviceLine) → IsAdviceLine N x wholes until line
    → length line.dates.now ≡ horizon line.network.now
line_has_dates N x wholes until line is =
    ap (λ (l : List (List ℕ)). length l) is.dates
    ∙ length-map-range_with_len (period_date N.calendar) 0 (horizon N)
    ∙ sym (ap (λ (n : Table). horizon n) is.network)

-- what a pair of a sized network has is within the bound
pub pair_is_advised : (N : Table) (x : ℕ) (wholes : Option (List ℕ)) (until : Option ℕ) (line : AdviceLine) (lacks : Lacks) (orders : List OpenOrder)
    → IsSized N → IsPair N x → IsAdviceLine N x wholes until line → HaveRoom (horizon N) lacks → orders ≡ open_orders N x → IsAdvised line.network.now lacks orders
pair_is_advised N x wholes until line lacks orders sized in_table is room mine =
    let bound = sized.within x in_table in
    let own : IsAdvised N lacks (open_orders N x) = record {
      room = room;
      pieces = omega (arith, orders-le N x sized.table, bound);
      each = open_in_table N sized.table x;
    } in
    subst (λ (n : Table). IsAdvised n lacks orders) (sym is.network)
    (subst (λ (o : List OpenOrder). IsAdvised N lacks o) (sym mine) own)
