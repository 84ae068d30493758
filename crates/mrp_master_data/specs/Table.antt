-- Master data: a table, as what its rows say with names as numbers, and what every accepted one says.
use Rattle.std.specs.Prelude.{◌≡◌, ℕ, ◌≤◌, ◌<◌, ◌==◌, ◌&&◌, Bool, true, false, List, [], ◌∷◌, length, map, filter}
use Rattle.std.specs.Prelude.{nat_le, All, IfSome, position, unwrap_or}
use Rattle.std.specs.Prelude.{option_map, slice_get}
use Rattle.std.specs.List.{IsDistinct, list_any}
use Rattle.std.specs.List.Sorted.{IsNonDecreasingBy}
use Rattle.std.specs.Str.{bytes_eq}
use Rattle.mrp_qty.specs.declared.quantity.TheConstants.{MOST}
use Rattle.mrp_qty.specs.declared.limits.LimitSet.{LimitSet}
use Rattle.mrp_qty.specs.declared.limits.Limits.{Limits}
use Rattle.mrp_qty.specs.Limits.{limits_of}
use Rattle.mrp_cal.specs.Calendar.{CalendarTerms, IsCalendar}
use Rattle.mrp_lot.specs.Lot.{IsRuleWithin}
use Rattle.mrp_qty.specs.declared.limits.TheConstants.{MOST_IN_ROW, MOST_PER, MOST_SHARE, MOST_SOURCES_OF_PAIR}
use Rattle.mrp_master_data.specs.declared.rows.BillRow.{BillRow}
use Rattle.mrp_master_data.specs.declared.rows.CumRow.{CumRow}
use Rattle.mrp_master_data.specs.declared.rows.DemandRow.{DemandRow}
use Rattle.mrp_master_data.specs.declared.rows.FirmRow.{FirmRow}
use Rattle.mrp_master_data.specs.declared.rows.PairRow.{PairRow}
use Rattle.mrp_master_data.specs.declared.rows.PolicyRow.{PolicyRow}
use Rattle.mrp_master_data.specs.declared.rows.ReceiptRow.{ReceiptRow}
use Rattle.mrp_master_data.specs.declared.rows.ResetRow.{ResetRow}
use Rattle.mrp_master_data.specs.declared.rows.ShipRow.{ShipRow}
use Rattle.mrp_master_data.specs.declared.rows.SourceRow.{SourceRow}
use Rattle.mrp_master_data.specs.declared.rows.Supply.{Supply}
use Rattle.mrp_master_data.specs.declared.rows.Supply.TheVariants as supply
use Rattle.mrp_master_data.specs.declared.rows.UsageRow.{UsageRow}
use Rattle.mrp_master_data.specs.Rows.{Vendor}
use Rattle.mrp_master_data.specs.Spelling.{is_name}

-- The lists of rows, each in table order. A name is the list of its bytes; everywhere else a plant,
-- an item or a pair is its place in its list.
pub record Table : Type 0 where
  -- how great the table may be
  pub limits : LimitSet
  pub calendar : CalendarTerms
  pub plants : List (List ℕ)
  pub items : List (List ℕ)
  pub pairs : List PairRow
  pub sources : List SourceRow
  pub bills : List BillRow
  pub demands : List DemandRow
  pub receipts : List ReceiptRow
  pub ships : List ShipRow
  pub cums : List CumRow
  pub resets : List ResetRow
  pub firms : List FirmRow
  pub policies : List PolicyRow
  pub usages : List UsageRow
  pub vendors : List Vendor
  -- whether an `end` row ends the table
  pub ended : Bool

-- the number of periods
abbrev pub horizon : Table → ℕ
horizon N = N.calendar.periods

-- the limits of the table as numbers
abbrev pub most : Table → Limits
most N = limits_of N.limits

-- the place of the pair of that plant and item, or past the end where there is none
abbrev pub pair_no : Table → ℕ → ℕ → ℕ
pair_no N plant item = unwrap_or (position (λ p. (p.plant.0 == plant) && (p.item.0 == item)) N.pairs) (length N.pairs)

-- a pair of the table
abbrev pub IsPair : Table → ℕ → Type 0
IsPair N x = x < length N.pairs

-- a name: 1 to 20 letters, digits, `-`, `_` and `.`
abbrev pub IsName : List ℕ → Type 0
IsName text = is_name text ≡ true

-- an amount of a row: at most 10^12 pieces
abbrev pub IsAmount : ℕ → Type 0
IsAmount quantity = quantity ≤ MOST_IN_ROW

pub record IsPairRow (N : Table) (p : PairRow) : Type 0 where
  pub plant : p.plant.0 < length N.plants
  pub item : p.item.0 < length N.items
  pub rule : IsRuleWithin (most N).periods p.rule
  pub lead : p.lead ≤ (most N).lead
  pub on_hand : IsAmount p.on_hand
  pub safety : IsAmount p.safety

pub record IsSourceRow (N : Table) (s : SourceRow) : Type 0 where
  pub pair : IsPair N s.pair.0
  pub plant : s.plant.0 < length N.plants
  pub rises : s.low < s.high
  pub ends : s.high ≤ 1000

pub record IsBillRow (N : Table) (b : BillRow) : Type 0 where
  pub parent : IsPair N b.parent.0
  pub component : IsPair N b.component.0
  pub some : 1 ≤ b.per
  pub few : b.per ≤ MOST_PER

pub record IsDemandRow (N : Table) (d : DemandRow) : Type 0 where
  pub pair : IsPair N d.pair.0
  pub period : d.period < horizon N
  pub some : 1 ≤ d.quantity
  pub quantity : IsAmount d.quantity

pub record IsReceiptRow (N : Table) (r : ReceiptRow) : Type 0 where
  pub pair : IsPair N r.pair.0
  pub period : r.period < horizon N
  pub some : 1 ≤ r.quantity
  pub quantity : IsAmount r.quantity

pub record IsShipRow (N : Table) (s : ShipRow) : Type 0 where
  pub from : s.from.0 < length N.plants
  pub pair : IsPair N s.pair.0
  pub period : s.period < horizon N
  pub some : 1 ≤ s.quantity
  pub quantity : IsAmount s.quantity

pub record IsCumRow (N : Table) (c : CumRow) : Type 0 where
  pub from : c.from.0 < length N.plants
  pub pair : IsPair N c.pair.0
  pub figure : c.figure ≤ MOST

pub record IsResetRow (N : Table) (r : ResetRow) : Type 0 where
  pub from : r.from.0 < length N.plants
  pub pair : IsPair N r.pair.0
  pub period : r.period < horizon N

-- a firm planned order is released no later than it is due, and due within the horizon
pub record IsFirmRow (N : Table) (f : FirmRow) : Type 0 where
  pub pair : IsPair N f.pair.0
  pub start : f.start ≤ f.due
  pub due : f.due < horizon N
  pub some : 1 ≤ f.quantity
  pub quantity : IsAmount f.quantity

-- a planning time fence within the horizon, no more periods of each kind than a lead time may have, and pieces as a row
-- may have them
pub record IsPolicyRow (N : Table) (p : PolicyRow) : Type 0 where
  pub pair : IsPair N p.pair.0
  pub fence : p.policy.fence < horizon N
  pub sooner : p.policy.sooner ≤ (most N).lead
  pub cover : p.policy.cover ≤ (most N).lead
  pub least : IsAmount p.policy.least
  pub multiple : IsAmount p.policy.multiple

-- from a period within the horizon on so many pieces, or none, go into so many parents, at least one
pub record IsUsageRow (N : Table) (u : UsageRow) : Type 0 where
  pub parent : IsPair N u.parent.0
  pub component : IsPair N u.component.0
  pub period : u.period < horizon N
  pub per : u.usage.per ≤ MOST_PER
  pub some : 1 ≤ u.usage.base
  pub base : u.usage.base ≤ MOST_PER

-- a vendor with a name, figures of at most 10^15 pieces, and a reset within the horizon, if there is one
pub record IsVendorRow (N : Table) (v : Vendor) : Type 0 where
  pub name : IsName v.name
  pub pair : IsPair N v.pair.0
  pub figure : v.figure ≤ MOST
  pub transit : v.transit ≤ MOST
  pub reset : IfSome v.reset (λ period. period < horizon N)

-- the table has a period, and no more periods, names and rows of each kind than its limits say
pub record IsLimited (N : Table) : Type 0 where
  pub some_periods : 1 ≤ horizon N
  pub periods : horizon N ≤ (most N).periods
  pub plants : length N.plants ≤ (most N).plants
  pub items : length N.items ≤ (most N).pairs
  pub pairs : length N.pairs ≤ (most N).pairs
  pub sources : length N.sources ≤ (most N).sources
  pub bills : length N.bills ≤ (most N).bills
  pub demands : length N.demands ≤ (most N).demands
  pub receipts : length N.receipts ≤ (most N).of_a_kind
  pub ships : length N.ships ≤ (most N).of_a_kind
  pub cums : length N.cums ≤ (most N).of_a_kind
  pub resets : length N.resets ≤ (most N).sources
  pub firms : length N.firms ≤ (most N).of_a_kind
  pub policies : length N.policies ≤ (most N).pairs
  pub usages : length N.usages ≤ (most N).bills
  pub vendors : length N.vendors ≤ (most N).pairs

-- the calendar is one, there are no more rows than a table may have, names are names, and each row is in range and
-- names plants, items and pairs of the table
pub record IsRead (N : Table) : Type 0 where
  pub calendar : IsCalendar N.calendar
  pub limits : IsLimited N
  pub plants : All IsName N.plants
  pub items : All IsName N.items
  pub pairs : All (IsPairRow N) N.pairs
  pub sources : All (IsSourceRow N) N.sources
  pub bills : All (IsBillRow N) N.bills
  pub demands : All (IsDemandRow N) N.demands
  pub receipts : All (IsReceiptRow N) N.receipts
  pub ships : All (IsShipRow N) N.ships
  pub cums : All (IsCumRow N) N.cums
  pub resets : All (IsResetRow N) N.resets
  pub firms : All (IsFirmRow N) N.firms
  pub policies : All (IsPolicyRow N) N.policies
  pub usages : All (IsUsageRow N) N.usages
  pub vendors : All (IsVendorRow N) N.vendors

-- the item of the pair at a place
abbrev pub item_at : Table → ℕ → ℕ
item_at N x = unwrap_or (option_map (λ p. p.item.0) (slice_get N.pairs x)) 0

-- the pair that a source row takes from: the same item at the source's plant
abbrev pub source_pair : Table → SourceRow → ℕ
source_pair N s = pair_no N s.plant.0 (item_at N s.pair.0)

-- ---- no row twice

abbrev pub is_same_pair : PairRow → PairRow → Bool
is_same_pair p q = (p.plant.0 == q.plant.0) && (p.item.0 == q.item.0)

abbrev pub is_same_source : SourceRow → SourceRow → Bool
is_same_source s t = (s.plant.0 == t.plant.0) && (s.pair.0 == t.pair.0)

abbrev pub is_same_bill : BillRow → BillRow → Bool
is_same_bill b c = (b.parent.0 == c.parent.0) && (b.component.0 == c.component.0)

abbrev pub is_same_cum : CumRow → CumRow → Bool
is_same_cum c d = (c.from.0 == d.from.0) && (c.pair.0 == d.pair.0)

abbrev pub is_same_reset : ResetRow → ResetRow → Bool
is_same_reset r s = (r.from.0 == s.from.0) && (r.pair.0 == s.pair.0)

abbrev pub is_same_policy : PolicyRow → PolicyRow → Bool
is_same_policy p q = p.pair.0 == q.pair.0

abbrev pub is_same_usage : UsageRow → UsageRow → Bool
is_same_usage u v = (u.parent.0 == v.parent.0) && (u.component.0 == v.component.0) && (u.period == v.period)

abbrev pub is_same_vendor : Vendor → Vendor → Bool
is_same_vendor v w = v.pair.0 == w.pair.0

-- no plant, item, pair, source, bill row, cumulative figure or reset stands twice, no pair has two policies or two
-- vendors, and no component of a parent two usages from one period on
pub record IsOnce (N : Table) : Type 0 where
  pub plants : IsDistinct bytes_eq N.plants
  pub items : IsDistinct bytes_eq N.items
  pub pairs : IsDistinct is_same_pair N.pairs
  pub sources : IsDistinct is_same_source N.sources
  pub bills : IsDistinct is_same_bill N.bills
  pub cums : IsDistinct is_same_cum N.cums
  pub resets : IsDistinct is_same_reset N.resets
  pub policies : IsDistinct is_same_policy N.policies
  pub usages : IsDistinct is_same_usage N.usages
  pub vendors : IsDistinct is_same_vendor N.vendors

-- ---- where pairs come from

-- the sources of a pair, in table order
abbrev pub sources_of_pair : Table → ℕ → List SourceRow
sources_of_pair N x = filter (λ s. s.pair.0 == x) N.sources

-- the shares follow one another from `low` on and end with the whole
unfoldable pub AreShares : ℕ → List SourceRow → Type 0
AreShares low [] = low ≡ MOST_SHARE
AreShares low (s ∷ ss) = (s.low ≡ low) × AreShares s.high ss

-- a pair that is taken from plants has sources, and their shares are the whole; no other has sources
abbrev pub HasSupply : Supply → List SourceRow → Type 0
HasSupply supply.From sources = AreShares 0 sources
HasSupply supply.Make sources = sources ≡ []
HasSupply supply.Buy sources = sources ≡ []

-- the plant of the pair at a place
abbrev pub plant_at : Table → ℕ → ℕ
plant_at N x = unwrap_or (option_map (λ p. p.plant.0) (slice_get N.pairs x)) 0

-- where the pair at a place comes from
abbrev pub supply_at : Table → ℕ → Supply
supply_at N x = unwrap_or (option_map (λ p. p.supply) (slice_get N.pairs x)) supply.Buy

-- the pair is taken from the plant
abbrev pub is_taken_from : Table → ℕ → ℕ → Bool
is_taken_from N x plant = list_any (λ s. (s.plant.0 == plant) && (s.pair.0 == x)) N.sources

-- a bill row joins the two pairs
abbrev pub is_joined : Table → ℕ → ℕ → Bool
is_joined N parent component = list_any (λ b. (b.parent.0 == parent) && (b.component.0 == component)) N.bills

-- ---- the shipments of a source

-- the periods of arrival of the shipments of a plant to a pair, in table order
abbrev pub arrivals_of : List ShipRow → ℕ → ℕ → List ℕ
arrivals_of ships f x = map (λ s. s.period) (filter (λ s. (s.from.0 == f) && (s.pair.0 == x)) ships)

abbrev pub arrivals : Table → ℕ → ℕ → List ℕ
arrivals N f x = arrivals_of N.ships f x

-- no number is below the one before it, and the first is not below `low`
abbrev pub rises_from : ℕ → List ℕ → Bool
rises_from low [] = true
rises_from low (n ∷ ns) = nat_le low n && rises_from n ns

-- a pair of the item has a row
abbrev pub is_item_of_pair : Table → ℕ → Bool
is_item_of_pair N item = list_any (λ p. p.item.0 == item) N.pairs

-- where pairs come from: what is taken from plants has sources whose shares are the whole, and nothing else has any.
-- Sources stand in the order of their pairs, at most four to a pair, and none is the pair's own plant.
-- A parent is made, at its component's plant. Shipments, cumulative figures and resets are of a source of the table.
-- The shipments of a source with a reset stand in the order of their arrival. Usages are of a bill row. What a vendor
-- delivers is bought, and no vendor has a plant's name. Each item is some pair's.
pub record IsSourced (N : Table) : Type 0 where
  pub items : (item : ℕ) → item < length N.items → is_item_of_pair N item ≡ true
  pub order : IsNonDecreasingBy (λ s. s.pair.0) N.sources
  pub few : (x : ℕ) → IsPair N x → length (sources_of_pair N x) ≤ MOST_SOURCES_OF_PAIR
  pub supplies : (x : ℕ) → IsPair N x → HasSupply (supply_at N x) (sources_of_pair N x)
  pub others : All (λ s. (s.plant.0 == plant_at N s.pair.0) ≡ false) N.sources
  pub parents : All (λ b. supply_at N b.parent.0 ≡ supply.Make) N.bills
  pub plants : All (λ b. plant_at N b.parent.0 ≡ plant_at N b.component.0) N.bills
  pub ships : All (λ s. is_taken_from N s.pair.0 s.from.0 ≡ true) N.ships
  pub cums : All (λ c. is_taken_from N c.pair.0 c.from.0 ≡ true) N.cums
  pub resets : All (λ r. is_taken_from N r.pair.0 r.from.0 ≡ true) N.resets
  pub usages : All (λ u. is_joined N u.parent.0 u.component.0 ≡ true) N.usages
  pub vendors : All (λ v. supply_at N v.pair.0 ≡ supply.Buy) N.vendors
  pub named : All (λ v. list_any (bytes_eq v.name) N.plants ≡ false) N.vendors
  pub arrive : All (λ r. rises_from 0 (arrivals N r.from.0 r.pair.0) ≡ true) N.resets

-- an accepted table: its rows are in range, those of `IsOnce` stand once, pairs come from where it says, and each
-- source takes from a pair of the table
pub record IsTable (N : Table) : Type 0 where
  pub read : IsRead N
  pub source_pairs : All (λ s. IsPair N (source_pair N s)) N.sources
  pub once : IsOnce N
  pub sourced : IsSourced N
