-- A valid table written out: the rows that say it, kind by kind, each kind in the order of its list, field by field.
-- Nothing here speaks of reading.
use Rattle.std.specs.Prelude.{◌≡◌, ◌≤◌, ℕ, ◌+◌, max, List, [], ◌∷◌, ◌++◌, codes, map, Option, Some, decimal}
use Rattle.std.specs.Prelude.{None, if◌then◌else◌}
use Rattle.std.specs.Option.{option_map_or}
use Rattle.mrp_cal.specs.declared.begun.Begun.{Begun}
use Rattle.mrp_cal.specs.Calendar.{CalendarTerms}
use Rattle.mrp_cal.specs.Days.{day_text}
use Rattle.mrp_master_data.specs.Rows.{Vendor}
use Rattle.mrp_master_data.specs.Said.{item_name, pair_item, pair_plant, plant_name, supply_said}
use Rattle.mrp_master_data.specs.Spelling.{rule_text}
use Rattle.mrp_master_data.specs.Supplies.{supply_text}
use Rattle.mrp_master_data.specs.Table.{Table}
use Rattle.mrp_master_data.specs.Turns.{rows_above_end}
use Rattle.mrp_master_data.specs.declared.rows.BillRow.{BillRow}
use Rattle.mrp_master_data.specs.declared.rows.CumRow.{CumRow}
use Rattle.mrp_master_data.specs.declared.rows.DemandRow.{DemandRow}
use Rattle.mrp_master_data.specs.declared.rows.FirmRow.{FirmRow}
use Rattle.mrp_master_data.specs.declared.rows.PairRow.{PairRow}
use Rattle.mrp_master_data.specs.declared.rows.PolicyRow.{PolicyRow}
use Rattle.mrp_master_data.specs.declared.rows.ReceiptRow.{ReceiptRow}
use Rattle.mrp_master_data.specs.declared.rows.ResetRow.{ResetRow}
use Rattle.mrp_master_data.specs.declared.rows.ShipRow.{ShipRow}
use Rattle.mrp_master_data.specs.declared.rows.UsageRow.{UsageRow}
use Rattle.csv.specs.Reading.{default_config, records}

-- ---- the eight fields of each kind of row; those that it doesn't use are empty

abbrev pub run_fields : CalendarTerms → List (List ℕ)
run_fields c = codes "run" ∷ day_text c.first ∷ decimal c.days ∷ decimal c.periods ∷ [] ∷ [] ∷ [] ∷ [] ∷ []

abbrev pub plant_fields : List ℕ → List (List ℕ)
plant_fields name = codes "plant" ∷ name ∷ [] ∷ [] ∷ [] ∷ [] ∷ [] ∷ [] ∷ []

-- the pair at a place
abbrev pub pair_fields : Table → ℕ → PairRow → List (List ℕ)
pair_fields N x p =
    codes "pair" ∷ plant_name N p.plant.0 ∷ item_name N p.item.0 ∷ supply_text (supply_said N x p.supply)
    ∷ rule_text p.rule
    ∷ decimal p.lead ∷ decimal p.on_hand ∷ decimal p.safety ∷ []

abbrev pub bill_fields : Table → BillRow → List (List ℕ)
bill_fields N b =
    codes "bill" ∷ pair_plant N b.parent.0 ∷ pair_item N b.parent.0 ∷ pair_item N b.component.0 ∷ decimal b.per ∷ []
    ∷ [] ∷ [] ∷ []

abbrev pub demand_fields : Table → DemandRow → List (List ℕ)
demand_fields N d =
    codes "demand" ∷ pair_plant N d.pair.0 ∷ pair_item N d.pair.0 ∷ decimal d.period ∷ decimal d.quantity ∷ []
    ∷ [] ∷ [] ∷ []

abbrev pub receipt_fields : Table → ReceiptRow → List (List ℕ)
receipt_fields N r =
    codes "receipt" ∷ pair_plant N r.pair.0 ∷ pair_item N r.pair.0 ∷ decimal r.period ∷ decimal r.quantity ∷ []
    ∷ [] ∷ [] ∷ []

-- the plant that ships stands before the plant of the pair
abbrev pub ship_fields : Table → ShipRow → List (List ℕ)
ship_fields N s =
    codes "ship" ∷ plant_name N s.from.0 ∷ pair_plant N s.pair.0 ∷ pair_item N s.pair.0 ∷ decimal s.period
    ∷ decimal s.quantity
    ∷ [] ∷ [] ∷ []

abbrev pub cum_fields : Table → CumRow → List (List ℕ)
cum_fields N c =
    codes "cum" ∷ plant_name N c.from.0 ∷ pair_plant N c.pair.0 ∷ pair_item N c.pair.0 ∷ decimal c.figure ∷ [] ∷ []
    ∷ [] ∷ []

abbrev pub reset_fields : Table → ResetRow → List (List ℕ)
reset_fields N r =
    codes "reset" ∷ plant_name N r.from.0 ∷ pair_plant N r.pair.0 ∷ pair_item N r.pair.0 ∷ decimal r.period ∷ []
    ∷ [] ∷ [] ∷ []

abbrev pub firm_fields : Table → FirmRow → List (List ℕ)
firm_fields N f =
    codes "firm" ∷ pair_plant N f.pair.0 ∷ pair_item N f.pair.0 ∷ decimal f.start ∷ decimal f.due
    ∷ decimal f.quantity
    ∷ [] ∷ [] ∷ []

abbrev pub policy_fields : Table → PolicyRow → List (List ℕ)
policy_fields N p =
    codes "policy" ∷ pair_plant N p.pair.0 ∷ pair_item N p.pair.0 ∷ decimal p.policy.fence ∷ decimal p.policy.sooner
    ∷ decimal p.policy.cover ∷ decimal p.policy.least ∷ decimal p.policy.multiple ∷ []

abbrev pub usage_fields : Table → UsageRow → List (List ℕ)
usage_fields N u =
    codes "usage" ∷ pair_plant N u.parent.0 ∷ pair_item N u.parent.0 ∷ pair_item N u.component.0 ∷ decimal u.period
    ∷ decimal u.usage.per ∷ decimal u.usage.base ∷ [] ∷ []

-- the field of the reset is empty where there is none
abbrev pub vendor_fields : Table → Vendor → List (List ℕ)
vendor_fields N v =
    codes "vendor" ∷ v.name ∷ pair_plant N v.pair.0 ∷ pair_item N v.pair.0 ∷ decimal v.figure ∷ decimal v.transit
    ∷ option_map_or decimal v.reset [] ∷ [] ∷ []

abbrev pub day_fields : Begun → List (List ℕ)
day_fields b = codes "day" ∷ decimal b.period ∷ day_text b.day ∷ [] ∷ [] ∷ [] ∷ [] ∷ [] ∷ []

abbrev pub end_fields : ℕ → List (List ℕ)
end_fields rows = codes "end" ∷ decimal rows ∷ [] ∷ [] ∷ [] ∷ [] ∷ [] ∷ [] ∷ []

-- ---- the rows of a table

-- pairs, the first of which stands at that place
abbrev pub pair_rows : Table → ℕ → List PairRow → List (List (List ℕ))
pair_rows N x [] = []
pair_rows N x (p ∷ ps) = pair_fields N x p ∷ pair_rows N (x + 1) ps

-- the end row, where there is one
abbrev pub last_row : Table → List (List (List ℕ))
last_row N = if N.ended then end_fields (rows_above_end N) ∷ [] else []

-- the rows after the run
abbrev pub later_rows : Table → List (List (List ℕ))
later_rows N =
    map plant_fields N.plants ++ (pair_rows N 0 N.pairs
    ++ (map (bill_fields N) N.bills ++ (map (demand_fields N) N.demands
    ++ (map (receipt_fields N) N.receipts ++ (map (ship_fields N) N.ships
    ++ (map (cum_fields N) N.cums ++ (map (reset_fields N) N.resets
    ++ (map (firm_fields N) N.firms ++ (map (policy_fields N) N.policies
    ++ (map (usage_fields N) N.usages ++ (map (vendor_fields N) N.vendors
    ++ (map day_fields N.calendar.begun ++ last_row N))))))))))))

-- the whole table
abbrev pub rows_of : Table → List (List (List ℕ))
rows_of N = run_fields N.calendar ∷ later_rows N

-- ---- the numbers of items

-- items are numbered in the order in which pairs first name them: where n items stand above these pairs, each pair is
-- of one of those or of the next, and with the last pair there are m
abbrev pub AreNumbered : ℕ → List PairRow → ℕ → Type 0
AreNumbered n [] m = m ≡ n
AreNumbered n (p ∷ ps) m = (p.item.0 ≤ n) × AreNumbered (max n (p.item.0 + 1)) ps m

-- the records of the text are so; of a text that is not known this says nothing
abbrev pub OfRecords : Option (List ℕ) → (List (List (List ℕ)) → Type 0) → Type 0
OfRecords None says = Unit {0}
OfRecords (Some text) says = says (records default_config text)
