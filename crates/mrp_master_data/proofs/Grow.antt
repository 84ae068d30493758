-- Master data: rows that are in range stay so while a table grows.
use Rattle.std.proofs.Common.{◌≡◌, true, false, if◌then◌else◌, ℕ, ◌+◌, ◌≤◌, ◌<◌, List, [], ◌∷◌, ◌++◌, length, arith, refl, ap, sym, subst, Result, Ok, Err}
use Rattle.std.proofs.Common.{OnOk, OnErr, IfSome, Option, Some, None}
use Rattle.std.specs.List.{All, list_any}
use Rattle.std.specs.Str.{bytes_eq}
use Rattle.std.proofs.lemmas.List.Elements.{All-push, All-weaker}
use Rattle.std.proofs.lemmas.List.{length_push}
use Rattle.mrp_cal.specs.Calendar.{CalendarTerms, IsCalendar}
use Rattle.mrp_lot.specs.Lot.{IsRuleWithin}
use Rattle.mrp_qty.specs.Limits.{limits_of}
use Rattle.mrp_qty.specs.declared.limits.LimitSet.{LimitSet}
use Rattle.mrp_qty.specs.declared.limits.Limits.{Limits}
use Rattle.mrp_master_data.specs.Rows.{Vendor}
use Rattle.mrp_master_data.specs.Table.{Table, IsName, IsRead, horizon, most, IsPairRow, IsSourceRow}
use Rattle.mrp_master_data.specs.Table.{IsBillRow, IsDemandRow, IsReceiptRow, IsShipRow, IsCumRow, IsResetRow, IsFirmRow, IsPolicyRow, IsUsageRow, IsVendorRow}
use Rattle.mrp_master_data.specs.Growing.{add_item, with_plant, with_item, with_pair, with_source, with_bill, with_demand, with_receipt, with_ship, with_cum}
use Rattle.mrp_master_data.specs.Growing.{with_calendar, with_end, with_firm, with_policy, with_reset, with_usage, with_vendor}
use Rattle.mrp_master_data.proofs.Naming.{item_added}
use Rattle.mrp_master_data.specs.declared.rows.PairRow.{PairRow}
use Rattle.mrp_master_data.specs.declared.rows.SourceRow.{SourceRow}
use Rattle.mrp_master_data.specs.declared.rows.BillRow.{BillRow}
use Rattle.mrp_master_data.specs.declared.rows.DemandRow.{DemandRow}
use Rattle.mrp_master_data.specs.declared.rows.ReceiptRow.{ReceiptRow}
use Rattle.mrp_master_data.specs.declared.rows.ShipRow.{ShipRow}
use Rattle.mrp_master_data.specs.declared.rows.CumRow.{CumRow}
use Rattle.mrp_master_data.specs.declared.rows.ResetRow.{ResetRow}
use Rattle.mrp_master_data.specs.declared.rows.FirmRow.{FirmRow}
use Rattle.mrp_master_data.specs.declared.rows.PolicyRow.{PolicyRow}
use Rattle.mrp_master_data.specs.declared.rows.UsageRow.{UsageRow}

-- as many periods, of a calendar that is one, and at least as many names and pairs
pub record Grows (N M : Table) : Type 0 where
  pub limits : M.limits ≡ N.limits
  pub calendar : IsCalendar N.calendar → IsCalendar M.calendar
  pub periods : horizon M ≡ horizon N
  pub plants : length N.plants ≤ length M.plants
  pub items : length N.items ≤ length M.items
  pub pairs : length N.pairs ≤ length M.pairs

pub same_names : (N M : Table) → M.limits ≡ N.limits → M.calendar ≡ N.calendar → M.plants ≡ N.plants → M.items ≡ N.items → M.pairs ≡ N.pairs → Grows N M
same_names N M limits calendar plants items pairs = record {
  limits = limits;
  calendar = λ is. subst IsCalendar (sym calendar) is;
  periods = ap (λ (c : CalendarTerms). c.periods) calendar;
  plants = omega (arith, ap length plants);
  items =
      omega (arith, ap length items);
  pairs = omega (arith, ap length pairs);
}

-- ---- a row that is in range stays so

module _ {N M : Table} (g : Grows N M) where
  same_periods : horizon M ≡ horizon N
  same_periods = g.periods

  -- what is within the limits of the one is within those of the other
  kept : (limit : Limits → ℕ) (n : ℕ) → n ≤ limit (most N) → n ≤ limit (most M)
  kept limit n h = omega (arith, h, ap (λ (s : LimitSet). limit (limits_of s)) g.limits)

  pair_grows : (x : PairRow) → IsPairRow N x → IsPairRow M x
  pair_grows x h = record {
    plant = omega (arith, g.plants, h.plant);
    item = omega (arith, g.items, h.item);
    rule = subst (λ (s : LimitSet). IsRuleWithin (limits_of s).periods x.rule) (sym g.limits) h.rule;
    lead = kept (λ l. l.lead) x.lead h.lead;
    on_hand =
        h.on_hand;
    safety = h.safety;
  }

  source_grows : (x : SourceRow) → IsSourceRow N x → IsSourceRow M x
  source_grows x h = record { pair = omega (arith, g.pairs, h.pair); plant = omega (arith, g.plants, h.plant); rises = h.rises; ends = h.ends }

  pub bill_grows : (x : BillRow) → IsBillRow N x → IsBillRow M x
  bill_grows x h = record { parent = omega (arith, g.pairs, h.parent); component = omega (arith, g.pairs, h.component); some = h.some; few = h.few }

  pub demand_grows : (x : DemandRow) → IsDemandRow N x → IsDemandRow M x
  demand_grows x h = record { pair = omega (arith, g.pairs, h.pair); period = omega (arith, same_periods, h.period); some = h.some; quantity = h.quantity }

  pub receipt_grows : (x : ReceiptRow) → IsReceiptRow N x → IsReceiptRow M x
  receipt_grows x h = record { pair = omega (arith, g.pairs, h.pair); period = omega (arith, same_periods, h.period); some = h.some; quantity = h.quantity }

  pub ship_grows : (x : ShipRow) → IsShipRow N x → IsShipRow M x
  ship_grows x h = record {
    from = omega (arith, g.plants, h.from);
    pair = omega (arith, g.pairs, h.pair);
    period =
        omega (arith, same_periods, h.period);
    some = h.some;
    quantity = h.quantity;
  }

  pub cum_grows : (x : CumRow) → IsCumRow N x → IsCumRow M x
  cum_grows x h = record { from = omega (arith, g.plants, h.from); pair = omega (arith, g.pairs, h.pair); figure = h.figure }

  pub reset_grows : (x : ResetRow) → IsResetRow N x → IsResetRow M x
  reset_grows x h = record { from = omega (arith, g.plants, h.from); pair = omega (arith, g.pairs, h.pair); period = omega (arith, same_periods, h.period) }

  pub firm_grows : (x : FirmRow) → IsFirmRow N x → IsFirmRow M x
  firm_grows x h = record {
    pair = omega (arith, g.pairs, h.pair);
    start = h.start;
    due = omega (arith, same_periods, h.due);
    some = h.some;
    quantity = h.quantity;
  }

  pub policy_grows : (x : PolicyRow) → IsPolicyRow N x → IsPolicyRow M x
  policy_grows x h = record {
    pair = omega (arith, g.pairs, h.pair);
    fence = omega (arith, same_periods, h.fence);
    sooner = kept (λ l. l.lead) x.policy.sooner h.sooner;
    cover = kept (λ l. l.lead) x.policy.cover h.cover;
    least = h.least;
    multiple = h.multiple;
  }

  pub usage_grows : (x : UsageRow) → IsUsageRow N x → IsUsageRow M x
  usage_grows x h = record {
    parent = omega (arith, g.pairs, h.parent);
    component = omega (arith, g.pairs, h.component);
    period = omega (arith, same_periods, h.period);
    per = h.per;
    some = h.some;
    base = h.base;
  }

  reset_within : (reset : Option ℕ) → IfSome reset (λ period. period < horizon N) → IfSome reset (λ period. period < horizon M)
  reset_within (Some period) h = omega (arith, same_periods, h)
  reset_within None h = tt

  pub vendor_grows : (x : Vendor) → IsVendorRow N x → IsVendorRow M x
  vendor_grows x h = record {
    name = h.name;
    pair = omega (arith, g.pairs, h.pair);
    figure = h.figure;
    transit = h.transit;
    reset = reset_within x.reset h.reset;
  }

-- ---- all rows

-- a list that changes: what holds of all its rows still does, and it has no more rows than it may have
pub record Changes {X : Type 0} (P : X → Type 0) (most : ℕ) (xs ys : List X) : Type 0 where
  pub each : All P xs → All P ys
  pub few : length xs ≤ most → length ys ≤ most

pub same_rows : {X : Type 0} {P : X → Type 0} {most : ℕ} {xs : List X} → Changes P most xs xs
same_rows = record { each = λ all. all; few = λ few. few }

pub one_more : {X : Type 0} {P : X → Type 0} {most : ℕ} {xs : List X} (x : X) → P x → length xs < most → Changes P most xs (xs ++ x ∷ [])
one_more {P = P} {xs = xs} x row room = record { each = λ all. All-push P xs x all row; few = λ _. omega (arith, length_push xs x, room) }

-- each list stays or changes, in the order of the table
pub read_grows : (N M : Table) → IsRead N → Grows N M
    → Changes IsName (most N).plants N.plants M.plants → Changes IsName (most N).pairs N.items M.items
    → Changes (IsPairRow M) (most N).pairs N.pairs M.pairs → Changes (IsSourceRow M) (most N).sources N.sources M.sources
    → Changes (IsBillRow M) (most N).bills N.bills M.bills
    → Changes (IsDemandRow M) (most N).demands N.demands M.demands → Changes (IsReceiptRow M) (most N).of_a_kind N.receipts M.receipts
    → Changes (IsShipRow M) (most N).of_a_kind N.ships M.ships → Changes (IsCumRow M) (most N).of_a_kind N.cums M.cums
    → Changes (IsResetRow M) (most N).sources N.resets M.resets → Changes (IsFirmRow M) (most N).of_a_kind N.firms M.firms
    → Changes (IsPolicyRow M) (most N).pairs N.policies M.policies → Changes (IsUsageRow M) (most N).bills N.usages M.usages
    → Changes (IsVendorRow M) (most N).pairs N.vendors M.vendors
    → IsRead M
read_grows N M read g plants items pairs sources bills demands receipts ships cums resets firms policies usages vendors =
    let few = read.limits in
    record {
      calendar = g.calendar read.calendar;
      limits = record {
        some_periods = omega (arith, same_periods g, few.some_periods);
        periods = kept g (λ l. l.periods) (horizon M) (omega (arith, same_periods g, few.periods));
        plants = kept g (λ l. l.plants) (length M.plants) (plants.few few.plants);
        items = kept g (λ l. l.pairs) (length M.items) (items.few few.items);
        pairs = kept g (λ l. l.pairs) (length M.pairs) (pairs.few few.pairs);
        sources = kept g (λ l. l.sources) (length M.sources) (sources.few few.sources);
        bills = kept g (λ l. l.bills) (length M.bills) (bills.few few.bills);
        demands = kept g (λ l. l.demands) (length M.demands) (demands.few few.demands);
        receipts = kept g (λ l. l.of_a_kind) (length M.receipts) (receipts.few few.receipts);
        ships = kept g (λ l. l.of_a_kind) (length M.ships) (ships.few few.ships);
        cums = kept g (λ l. l.of_a_kind) (length M.cums) (cums.few few.cums);
        resets = kept g (λ l. l.sources) (length M.resets) (resets.few few.resets);
        firms = kept g (λ l. l.of_a_kind) (length M.firms) (firms.few few.firms);
        policies = kept g (λ l. l.pairs) (length M.policies) (policies.few few.policies);
        usages = kept g (λ l. l.bills) (length M.usages) (usages.few few.usages);
        vendors = kept g (λ l. l.pairs) (length M.vendors) (vendors.few few.vendors);
      };
      plants = plants.each read.plants;
      items = items.each read.items;
      pairs = pairs.each (All-weaker (IsPairRow N) (IsPairRow M) (pair_grows g) N.pairs read.pairs);
      sources = sources.each (All-weaker (IsSourceRow N) (IsSourceRow M) (source_grows g) N.sources read.sources);
      bills = bills.each (All-weaker (IsBillRow N) (IsBillRow M) (bill_grows g) N.bills read.bills);
      demands = demands.each (All-weaker (IsDemandRow N) (IsDemandRow M) (demand_grows g) N.demands read.demands);
      receipts = receipts.each (All-weaker (IsReceiptRow N) (IsReceiptRow M) (receipt_grows g) N.receipts read.receipts);
      ships = ships.each (All-weaker (IsShipRow N) (IsShipRow M) (ship_grows g) N.ships read.ships);
      cums = cums.each (All-weaker (IsCumRow N) (IsCumRow M) (cum_grows g) N.cums read.cums);
      resets = resets.each (All-weaker (IsResetRow N) (IsResetRow M) (reset_grows g) N.resets read.resets);
      firms = firms.each (All-weaker (IsFirmRow N) (IsFirmRow M) (firm_grows g) N.firms read.firms);
      policies = policies.each (All-weaker (IsPolicyRow N) (IsPolicyRow M) (policy_grows g) N.policies read.policies);
      usages = usages.each (All-weaker (IsUsageRow N) (IsUsageRow M) (usage_grows g) N.usages read.usages);
      vendors = vendors.each (All-weaker (IsVendorRow N) (IsVendorRow M) (vendor_grows g) N.vendors read.vendors);
    }

-- ---- one row more

pub read-with_plant : (N : Table) (x : List ℕ) → IsRead N → IsName x → length N.plants < (most N).plants → IsRead (with_plant N x)
read-with_plant N x read named room =
    let g : Grows N (with_plant N x) = record {
      limits = refl;
      calendar = λ is. is;
      periods = refl;
      plants = omega (arith, length_push N.plants x);
      items = omega arith;
      pairs = omega arith;
    } in
    read_grows N (with_plant N x) read g (one_more x named room) same_rows same_rows same_rows same_rows same_rows same_rows same_rows same_rows same_rows same_rows same_rows
    same_rows same_rows

-- what holds anyway
pub on_ok : {T E X : Type 0} (r : Result T E) → X → OnOk r X
on_ok (Ok _) h = h
on_ok (Err _) h = tt

-- the plants after one more was pushed, whether it found room or not
pub read-pushed_plant : {E : Type 0} (N : Table) (x : List ℕ) (plants : List (List ℕ)) (pushed : Result (Unit {0}) E) → IsRead N → IsName x
    → length N.plants < (most N).plants
    → OnOk pushed (plants ≡ N.plants ++ x ∷ []) → OnErr pushed (plants ≡ N.plants) → (let M : Table = record N { plants = plants } in IsRead M)
read-pushed_plant N x plants (Ok _) read named room more same =
    subst (λ (ps : List (List ℕ)). let M : Table = record N { plants = ps } in IsRead M) (sym more) (read-with_plant N x read named room)
read-pushed_plant N x plants (Err _) read named room more same =
    subst (λ (ps : List (List ℕ)). let M : Table = record N { plants = ps } in IsRead M) (sym same) read

pub read-with_pair : (N : Table) (x : PairRow) → IsRead N → IsPairRow N x → length N.pairs < (most N).pairs → IsRead (with_pair N x)
read-with_pair N x read row room =
    let g : Grows N (with_pair N x) = record {
      limits = refl;
      calendar = λ is. is;
      periods = refl;
      plants = omega arith;
      items = omega arith;
      pairs = omega (arith, length_push N.pairs x);
    } in
    read_grows N (with_pair N x) read g same_rows same_rows (one_more x (pair_grows g x row) room) same_rows same_rows same_rows same_rows same_rows same_rows
    same_rows same_rows same_rows same_rows same_rows

pub read-with_source : (N : Table) (x : SourceRow) → IsRead N → IsSourceRow N x → length N.sources < (most N).sources → IsRead (with_source N x)
read-with_source N x read row room =
    let g = same_names N (with_source N x) refl refl refl refl refl in
    read_grows N (with_source N x) read g same_rows same_rows same_rows
    (one_more x (source_grows g x row) room) same_rows same_rows same_rows same_rows same_rows same_rows same_rows same_rows same_rows same_rows

pub read-with_bill : (N : Table) (x : BillRow) → IsRead N → IsBillRow N x → length N.bills < (most N).bills → IsRead (with_bill N x)
read-with_bill N x read row room =
    let g = same_names N (with_bill N x) refl refl refl refl refl in
    read_grows N (with_bill N x) read g same_rows same_rows same_rows same_rows
    (one_more x (bill_grows g x row) room) same_rows same_rows same_rows same_rows same_rows same_rows same_rows same_rows same_rows

pub read-with_demand : (N : Table) (x : DemandRow) → IsRead N → IsDemandRow N x → length N.demands < (most N).demands → IsRead (with_demand N x)
read-with_demand N x read row room =
    let g = same_names N (with_demand N x) refl refl refl refl refl in
    read_grows N (with_demand N x) read g same_rows same_rows same_rows same_rows same_rows
    (one_more x (demand_grows g x row) room) same_rows same_rows same_rows same_rows same_rows same_rows same_rows same_rows

pub read-with_receipt : (N : Table) (x : ReceiptRow) → IsRead N → IsReceiptRow N x → length N.receipts < (most N).of_a_kind → IsRead (with_receipt N x)
read-with_receipt N x read row room =
    let g = same_names N (with_receipt N x) refl refl refl refl refl in
    read_grows N (with_receipt N x) read g same_rows same_rows same_rows same_rows same_rows same_rows
    (one_more x (receipt_grows g x row) room) same_rows same_rows same_rows same_rows same_rows same_rows same_rows

pub read-with_ship : (N : Table) (x : ShipRow) → IsRead N → IsShipRow N x → length N.ships < (most N).of_a_kind → IsRead (with_ship N x)
read-with_ship N x read row room =
    let g = same_names N (with_ship N x) refl refl refl refl refl in
    read_grows N (with_ship N x) read g same_rows same_rows same_rows same_rows same_rows same_rows same_rows
    (one_more x (ship_grows g x row) room) same_rows same_rows same_rows same_rows same_rows same_rows

pub read-with_cum : (N : Table) (x : CumRow) → IsRead N → IsCumRow N x → length N.cums < (most N).of_a_kind → IsRead (with_cum N x)
read-with_cum N x read row room =
    let g = same_names N (with_cum N x) refl refl refl refl refl in
    read_grows N (with_cum N x) read g same_rows same_rows same_rows same_rows same_rows same_rows same_rows same_rows
    (one_more x (cum_grows g x row) room) same_rows same_rows same_rows same_rows same_rows

pub read-with_reset : (N : Table) (x : ResetRow) → IsRead N → IsResetRow N x → length N.resets < (most N).sources → IsRead (with_reset N x)
read-with_reset N x read row room =
    let g = same_names N (with_reset N x) refl refl refl refl refl in
    read_grows N (with_reset N x) read g same_rows same_rows same_rows same_rows same_rows same_rows same_rows same_rows same_rows
    (one_more x (reset_grows g x row) room) same_rows same_rows same_rows same_rows

pub read-with_firm : (N : Table) (x : FirmRow) → IsRead N → IsFirmRow N x → length N.firms < (most N).of_a_kind → IsRead (with_firm N x)
read-with_firm N x read row room =
    let g = same_names N (with_firm N x) refl refl refl refl refl in
    read_grows N (with_firm N x) read g same_rows same_rows same_rows same_rows same_rows same_rows same_rows same_rows same_rows same_rows
    (one_more x (firm_grows g x row) room) same_rows same_rows same_rows

pub read-with_policy : (N : Table) (x : PolicyRow) → IsRead N → IsPolicyRow N x → length N.policies < (most N).pairs → IsRead (with_policy N x)
read-with_policy N x read row room =
    let g = same_names N (with_policy N x) refl refl refl refl refl in
    read_grows N (with_policy N x) read g same_rows same_rows same_rows same_rows same_rows same_rows same_rows same_rows same_rows same_rows
    same_rows (one_more x (policy_grows g x row) room) same_rows same_rows

pub read-with_usage : (N : Table) (x : UsageRow) → IsRead N → IsUsageRow N x → length N.usages < (most N).bills → IsRead (with_usage N x)
read-with_usage N x read row room =
    let g = same_names N (with_usage N x) refl refl refl refl refl in
    read_grows N (with_usage N x) read g same_rows same_rows same_rows same_rows same_rows same_rows same_rows same_rows same_rows same_rows
    same_rows same_rows (one_more x (usage_grows g x row) room) same_rows

pub read-with_vendor : (N : Table) (x : Vendor) → IsRead N → IsVendorRow N x → length N.vendors < (most N).pairs → IsRead (with_vendor N x)
read-with_vendor N x read row room =
    let g = same_names N (with_vendor N x) refl refl refl refl refl in
    read_grows N (with_vendor N x) read g same_rows same_rows same_rows same_rows same_rows same_rows same_rows same_rows same_rows same_rows
    same_rows same_rows same_rows (one_more x (vendor_grows g x row) room)

-- with another calendar of as many periods
pub read-with_calendar : (N : Table) (c : CalendarTerms) → IsRead N → IsCalendar c → c.periods ≡ horizon N → IsRead (with_calendar N c)
read-with_calendar N c read is periods =
    let g : Grows N (with_calendar N c) = record {
      limits = refl;
      calendar = λ _. is;
      periods = periods;
      plants = omega arith;
      items = omega arith;
      pairs = omega arith;
    } in
    read_grows N (with_calendar N c) read g same_rows same_rows same_rows same_rows same_rows same_rows same_rows same_rows same_rows same_rows
    same_rows same_rows same_rows same_rows

-- one item more, or none
pub length-add_item-le : (items : List (List ℕ)) (name : List ℕ)
    → (length items ≤ length (add_item items name)) × (length (add_item items name) ≤ length items + 1)
length-add_item-le items name =
    elim (list_any (bytes_eq name) items) as (λ b. (length items ≤ length (if b then items else items ++ name ∷ []))
    × (length (if b then items else items ++ name ∷ []) ≤ length items + 1)) [
      | true ↦ (omega arith, omega arith)
      | false ↦ (omega (arith, length_push items name), omega (arith, length_push items name))
    ]

pub names-add_item : (items : List (List ℕ)) (name : List ℕ) → All IsName items → IsName name → All IsName (add_item items name)
names-add_item items name names named =
    elim (list_any (bytes_eq name) items) as (λ b. All IsName (if b then items else items ++ name ∷ [])) [
      | true ↦ names
      | false ↦ All-push IsName items name names named
    ]

pub name_added : (most_items : ℕ) (items : List (List ℕ)) (name : List ℕ) → IsName name → length items < most_items
    → Changes IsName most_items items (add_item items name)
name_added most_items items name named room =
    record { each = λ all. names-add_item items name all named; few = λ _. omega (arith, (length-add_item-le items name).1, room) }

pub read-with_item : (N : Table) (name : List ℕ) → IsRead N → IsName name → length N.items < (most N).pairs → IsRead (with_item N name)
read-with_item N name read named room =
    let g : Grows N (with_item N name) = record {
      limits = refl;
      calendar = λ is. is;
      periods = refl;
      plants = omega arith;
      items = (length-add_item-le N.items name).0;
      pairs = omega arith;
    } in
    read_grows N (with_item N name) read g same_rows (name_added (most N).pairs N.items name named room) same_rows same_rows same_rows same_rows same_rows
    same_rows same_rows
    same_rows same_rows same_rows same_rows same_rows

-- the items after one more was pushed, whether it found room or not
pub read-pushed_item : {E : Type 0} (N : Table) (x : List ℕ) (items : List (List ℕ)) (pushed : Result (Unit {0}) E) → IsRead N → IsName x
    → length N.items < (most N).pairs
    → list_any (bytes_eq x) N.items ≡ false → OnOk pushed (items ≡ N.items ++ x ∷ []) → OnErr pushed (items ≡ N.items)
    → (let M : Table = record N { items = items } in IsRead M)
read-pushed_item N x items (Ok _) read named room fresh more same = subst IsRead (sym (item_added N x items fresh more)) (read-with_item N x read named room)
read-pushed_item N x items (Err _) read named room fresh more same =
    subst (λ (is : List (List ℕ)). let M : Table = record N { items = is } in IsRead M) (sym same) read

-- with its `end` row
pub read-with_end : (N : Table) → IsRead N → IsRead (with_end N)
read-with_end N read =
    let g = same_names N (with_end N) refl refl refl refl refl in
    read_grows N (with_end N) read g same_rows same_rows same_rows same_rows same_rows same_rows same_rows same_rows same_rows same_rows
    same_rows same_rows same_rows same_rows
