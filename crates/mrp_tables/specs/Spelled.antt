-- The reader of tables: what it finds that a row spells.
use Rattle.std.specs.Prelude.{ℕ, ◌≤◌, List}
use Rattle.mrp_lot.specs.Lot.{IsRuleWithin}
use Rattle.mrp_qty.specs.Limits.{limits_of}
use Rattle.mrp_qty.specs.declared.limits.LimitSet.{LimitSet}
use Rattle.mrp_qty.specs.declared.limits.TheConstants.{MOST_IN_ROW}
use Rattle.mrp_master_data.specs.Spelled.{HasSources, supply_view}
use Rattle.mrp_tables.specs.declared.spelled.SpelledFirm.{SpelledFirm}
use Rattle.mrp_tables.specs.declared.spelled.SpelledPair.{SpelledPair}
use Rattle.mrp_tables.specs.declared.spelled.SpelledRun.{SpelledRun}
use Rattle.mrp_tables.specs.declared.usages.SpelledUsage.{SpelledUsage}
use Rattle.mrp_tables.specs.declared.vendors.SpelledVendor.{SpelledVendor}
use Rattle.mrp_master_data.specs.Table.{IsName}
use Rattle.mrp_validation.specs.Grammar.{field, AmountTerms, BillTerms, FirmTerms, LaneTerms, PairTerms, PolicyTerms, RunTerms}
use Rattle.mrp_validation.specs.Grammar.{UsageTerms, VendorTerms}

-- a pair row whose item is a name, and whose numbers are in their ranges within these limits
pub record IsSpelledPair (limits : LimitSet) (p : SpelledPair) : Type 0 where
  pub item : IsName p.item.now
  pub supply : HasSources p.supply
  pub rule : IsRuleWithin (limits_of limits).periods p.rule
  pub lead : p.lead ≤ (limits_of limits).lead
  pub on_hand : p.on_hand ≤ MOST_IN_ROW
  pub safety : p.safety ≤ MOST_IN_ROW

-- what a row spells, as the grammar sees it
abbrev pub run_view : SpelledRun → RunTerms
run_view r = record { first = r.first.now; days = r.days; periods = r.periods }

abbrev pub pair_view : SpelledPair → PairTerms
pair_view p = record {
  plant = p.plant.now;
  item = p.item.now;
  supply = supply_view p.supply;
  rule = p.rule;
  lead = p.lead;
  on_hand = p.on_hand;
  safety = p.safety;
}

-- ---- the names that a row begins with, behind its kind

abbrev pub HasTwoNames : List (List ℕ) → Type 0
HasTwoNames row = IsName (field row 1) × IsName (field row 2)

-- the names of a vendor's pair, behind the vendor's
abbrev pub HasPairBehind : List (List ℕ) → Type 0
HasPairBehind row = IsName (field row 2) × IsName (field row 3)

abbrev pub HasThreeNames : List (List ℕ) → Type 0
HasThreeNames row = IsName (field row 1) × IsName (field row 2) × IsName (field row 3)

-- ---- what a row says by its names and its numbers

abbrev pub terms_of_bill : List (List ℕ) → ℕ → BillTerms
terms_of_bill row per = record { plant = field row 1; parent = field row 2; component = field row 3; per = per }

abbrev pub terms_of_amount : List (List ℕ) → ℕ → ℕ → AmountTerms
terms_of_amount row period quantity = record {
  plant = field row 1;
  item = field row 2;
  period = period;
  quantity = quantity;
}

abbrev pub terms_of_firm : List (List ℕ) → SpelledFirm → FirmTerms
terms_of_firm row f = record {
  plant = field row 1;
  item = field row 2;
  start = f.start;
  due = f.due;
  quantity = f.quantity;
}

abbrev pub terms_of_policy : List (List ℕ) → ℕ → ℕ → ℕ → ℕ → ℕ → PolicyTerms
terms_of_policy row fence sooner cover least multiple = record {
  plant = field row 1;
  item = field row 2;
  fence = fence;
  sooner = sooner;
  cover = cover;
  least = least;
  multiple = multiple;
}

abbrev pub terms_of_usage : List (List ℕ) → SpelledUsage → UsageTerms
terms_of_usage row u = record {
  plant = field row 1;
  parent = field row 2;
  component = field row 3;
  period = u.period;
  per = u.usage.per;
  base = u.usage.base;
}

abbrev pub terms_of_vendor : List (List ℕ) → SpelledVendor → VendorTerms
terms_of_vendor row v = record {
  vendor = field row 1;
  plant = field row 2;
  item = field row 3;
  figure = v.figure;
  transit = v.transit;
  reset = v.reset;
}

abbrev pub terms_of_lane : List (List ℕ) → LaneTerms
terms_of_lane row = record { from = field row 1; to = field row 2; item = field row 3 }
