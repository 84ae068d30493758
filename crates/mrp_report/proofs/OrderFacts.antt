-- The report of orders: the rows of a pair, due period by due period.
use Rattle.std.proofs.Common.{◌≡◌, ◌∙◌, ℕ, ◌==◌, if◌then◌else◌, Bool, true, false, cond, List, [], Option, ◌∷◌, ◌++◌, inl, inr, length, map, refl, sym, ap}
use Rattle.std.proofs.Common.{arith}
use Rattle.std.specs.List.{All, filter, flat_map, range_with_len}
use Rattle.std.proofs.lemmas.Grind.{flat_map-append}
use Rattle.std.proofs.lemmas.List.{append-nil}
use Rattle.std.proofs.lemmas.Bool.{cases_Bool}
use Rattle.std.proofs.lemmas.List.FromFn.{length-map-range_with_len}
use Rattle.mrp_grouping.proofs.Sorting.{filter-no, filter-yes}
use Rattle.mrp_netting.specs.PlanRows.{PlanRows}
use Rattle.mrp_master_data.specs.declared.rows.FirmRow.{FirmRow}
use Rattle.mrp_plan.specs.Orders.{firm_order, has_order, is_released_by, order_of_plan, orders_due, planned_order}
use Rattle.mrp_plan.specs.declared.orders.ListedOrder.{ListedOrder}
use Rattle.mrp_report.specs.declared.orders.OrderLine.{OrderLine}
use Rattle.mrp_netting.proofs.OneRows.{length-one-order}
use Rattle.mrp_master_data.specs.Table.{horizon, IsFirmRow, IsPair, Table}
use Rattle.mrp_net.specs.Plan.{gross, pair_data, rows_at}
use Rattle.mrp_net.specs.PlanLaws.{Fits}
use Rattle.mrp_net.specs.FirmOrders.{firms_of}
use Rattle.mrp_net.specs.Sums.{earliest_at, params_at}
use Rattle.mrp_csv_out.specs.Dates.{dates_of, period_date}
use Rattle.mrp_report.specs.OrderLines.{HasDates, IsOrderLine, due_text, firm_text, order_line_row, order_line_text, planned_text, released_text}
use Rattle.mrp_report.specs.Orders.{listed_order_row, pair_orders_text, spelled_supply}
use Rattle.mrp_csv_out.specs.Names.{item_of, plant_of}

-- the rows of orders that are released by then are those of the orders that pass
released : (line : OrderLine) (ls : List ListedOrder)
    → flat_map (released_text line) ls ≡ flat_map (order_line_row line) (filter (λ l. is_released_by line.until l.order) ls)
released line [] = refl
released line (l ∷ ls) =
    let test : ListedOrder → Bool = λ k. is_released_by line.until k.order in
    let rest = released line ls in
    elim (cases_Bool (test l)) as (λ _. flat_map (released_text line) (l ∷ ls) ≡ flat_map (order_line_row line) (filter test (l ∷ ls))) [
      | inl by_then ↦
          ap (λ b. cond b (order_line_row line l) [] ++ flat_map (released_text line) ls) by_then
          ∙ ap (λ (text : List ℕ). order_line_row line l ++ text) rest
          ∙ sym (ap (flat_map (order_line_row line)) (filter-yes test l ls by_then))
      | inr later ↦
          ap (λ b. cond b (order_line_row line l) [] ++ flat_map (released_text line) ls) later
          ∙ rest
          ∙ sym (ap (flat_map (order_line_row line)) (filter-no test l ls later))
    ]

-- those of the firm planned orders that are due in a period
firms_due : (line : OrderLine) (t : ℕ) (fs : List FirmRow)
    → flat_map (firm_text line t) fs ≡ flat_map (released_text line) (map firm_order (filter (λ f. f.due == t) fs))
firms_due line t [] = refl
firms_due line t (f ∷ fs) =
    let test : FirmRow → Bool = λ g. g.due == t in
    let rest = firms_due line t fs in
    let texts : List FirmRow → List ℕ = λ gs. flat_map (released_text line) (map firm_order gs) in
    elim (cases_Bool (test f)) as (λ _. flat_map (firm_text line t) (f ∷ fs) ≡ texts (filter test (f ∷ fs))) [
      | inl here ↦
          ap (λ b. cond b (released_text line (firm_order f)) [] ++ flat_map (firm_text line t) fs) here
          ∙ ap (λ (text : List ℕ). released_text line (firm_order f) ++ text) rest
          ∙ sym (ap texts (filter-yes test f fs here))
      | inr other ↦
          ap (λ b. cond b (released_text line (firm_order f)) [] ++ flat_map (firm_text line t) fs) other
          ∙ rest
          ∙ sym (ap texts (filter-no test f fs other))
    ]

-- and that of the planned order
planned_due : (line : OrderLine) (rows : PlanRows) (t : ℕ)
    → planned_text line rows t
    ≡ flat_map (released_text line) (if has_order rows t then order_of_plan (planned_order line.lead line.earliest rows t) ∷ [] else [])
planned_due line rows t =
    let order = order_of_plan (planned_order line.lead line.earliest rows t) in
    let text = released_text line order in
    elim (has_order rows t) as (λ b. cond b text [] ≡ flat_map (released_text line) (cond b (order ∷ []) [])) [
      | true ↦ sym (append-nil text)
      | false ↦ refl
    ]

due_is : (line : OrderLine) (rows : PlanRows) (t : ℕ)
    → due_text line rows t ≡ flat_map (released_text line) (orders_due line.firms.now line.lead line.earliest rows t)
due_is line rows t =
    let planned = if has_order rows t then order_of_plan (planned_order line.lead line.earliest rows t) ∷ [] else [] in
    ap (λ (text : List ℕ). text ++ planned_text line rows t) (firms_due line t line.firms.now)
    ∙ ap (λ (text : List ℕ). flat_map (released_text line) (map firm_order (filter (λ f. f.due == t) line.firms.now)) ++ text) (planned_due line rows t)
    ∙ sym (flat_map-append (released_text line) (map firm_order (filter (λ f. f.due == t) line.firms.now)) planned)

-- the rows of the periods are those of the orders
dues_are : (line : OrderLine) (rows : PlanRows) (ts : List ℕ)
    → flat_map (due_text line rows) ts ≡ flat_map (released_text line) (flat_map (orders_due line.firms.now line.lead line.earliest rows) ts)
dues_are line rows [] = refl
dues_are line rows (t ∷ ts) =
    let due = orders_due line.firms.now line.lead line.earliest rows in
    ap (λ (text : List ℕ). text ++ flat_map (due_text line rows) ts) (due_is line rows t)
    ∙ ap (λ (text : List ℕ). flat_map (released_text line) (due t) ++ text) (dues_are line rows ts)
    ∙ sym (flat_map-append (released_text line) (due t) (flat_map due ts))

-- the rows of a line are those of its pair
pub line_is_pair : (N : Table) (table : List PlanRows) (x : ℕ) (until : Option ℕ) (line : OrderLine) (rows : PlanRows) → rows ≡ rows_at table x
    → IsOrderLine N x until line
    → order_line_text line rows ≡ pair_orders_text until N table x
unfolding pair_orders_text
line_is_pair N table x until line rows same is =
    let size : length line.dates.now ≡ horizon N = ap (λ (l : List (List ℕ)). length l) is.dates
    ∙ length-map-range_with_len (period_date N.calendar) 0 (horizon N) in
    let orders : Option ℕ → List FirmRow → ℕ → ℕ → PlanRows → List ListedOrder = λ u fs l e r. filter (λ o. is_released_by u o.order)
    (flat_map (orders_due fs l e r) (range_with_len 0 (horizon N))) in
    let own = orders until (firms_of N x) (params_at N x).lead (earliest_at N x) (rows_at table x) in
    ap (λ n. flat_map (due_text line rows) (range_with_len 0 n)) size
    ∙ dues_are line rows (range_with_len 0 (horizon N))
    ∙ released line (flat_map (orders_due line.firms.now line.lead line.earliest rows) (range_with_len 0 (horizon N)))
    ∙ ap (λ r. flat_map (order_line_row line) (orders line.until line.firms.now line.lead line.earliest r)) same
    ∙ ap (λ fs. flat_map (order_line_row line) (orders line.until fs line.lead line.earliest (rows_at table x))) is.firms
    ∙ ap (λ l. flat_map (order_line_row line) (orders line.until (firms_of N x) l line.earliest (rows_at table x))) is.lead
    ∙ ap (λ e. flat_map (order_line_row line) (orders line.until (firms_of N x) (params_at N x).lead e (rows_at table x))) is.earliest
    ∙ ap (λ u. flat_map (order_line_row line) (orders u (firms_of N x) (params_at N x).lead (earliest_at N x) (rows_at table x))) is.by_then
    ∙ ap (λ (p : List ℕ). flat_map (listed_order_row p line.item.now line.supply.now line.dates.now) own) is.plant
    ∙ ap (λ (i : List ℕ). flat_map (listed_order_row (plant_of N x) i line.supply.now line.dates.now) own) is.item
    ∙ ap (λ (s : List ℕ). flat_map (listed_order_row (plant_of N x) (item_of N x) s line.dates.now) own) is.supply
    ∙ ap (λ (d : List (List ℕ)). flat_map (listed_order_row (plant_of N x) (item_of N x) (spelled_supply N x) d) own) is.dates

-- the firm planned orders of a pair are released and due in periods that have dates
pub firms_have_dates : (N : Table) (x : ℕ) (until : Option ℕ) (line : OrderLine) → All (IsFirmRow N) line.firms.now → IsOrderLine N x until line
    → All (HasDates line) line.firms.now
firms_have_dates N x until line rows is =
    let size : length line.dates.now ≡ horizon N = ap (λ (l : List (List ℕ)). length l) is.dates
    ∙ length-map-range_with_len (period_date N.calendar) 0 (horizon N) in
    λ k d h. let f = rows k d h in record { start = omega (arith, f.start, f.due, size); due = omega (arith, f.due, size) }

-- the plans of a table that fits have an order, or none, for each date
pub order_has_dates : (N : Table) (table : List PlanRows) (x : ℕ) (rows : PlanRows) (dates : List (List ℕ)) → Fits N table → IsPair N x → rows ≡ rows_at table x
    → dates ≡ dates_of N.calendar
    → length rows.order ≡ length dates
order_has_dates N table x rows dates fits pair same are =
    let size : length dates ≡ horizon N = ap (λ (l : List (List ℕ)). length l) are ∙ length-map-range_with_len (period_date N.calendar) 0 (horizon N) in
    ap (λ (r : PlanRows). length r.order) (same ∙ fits.rows x pair)
    ∙ length-one-order (pair_data N table x)
    ∙ length-map-range_with_len (gross N table x) 0 (horizon N)
    ∙ sym size
