-- Master data of a table with one row more.
use Rattle.std.specs.Prelude.{ℕ, ◌∷◌, ◌++◌, [], List, length, if◌then◌else◌, Bool, true, false, not, nat_lt}
use Rattle.std.specs.List.{list_any}
use Rattle.std.specs.Str.{bytes_eq}
use Rattle.mrp_qty.specs.declared.limits.LimitSet.{LimitSet}
use Rattle.mrp_cal.specs.Calendar.{CalendarTerms}
use Rattle.mrp_master_data.specs.Rows.{Vendor}
use Rattle.mrp_master_data.specs.Table.{Table, source_pair}
use Rattle.mrp_master_data.specs.declared.rows.PairRow.{PairRow}
use Rattle.mrp_master_data.specs.declared.rows.SourceRow.{SourceRow}
use Rattle.mrp_master_data.specs.declared.rows.BillRow.{BillRow}
use Rattle.mrp_master_data.specs.declared.rows.DemandRow.{DemandRow}
use Rattle.mrp_master_data.specs.declared.rows.ReceiptRow.{ReceiptRow}
use Rattle.mrp_master_data.specs.declared.rows.ShipRow.{ShipRow}
use Rattle.mrp_master_data.specs.declared.rows.CumRow.{CumRow}
use Rattle.mrp_master_data.specs.declared.rows.ResetRow.{ResetRow}
use Rattle.mrp_master_data.specs.declared.rows.FirmRow.{FirmRow}
use Rattle.mrp_master_data.specs.declared.rows.PolicyRow.{PolicyRow}
use Rattle.mrp_master_data.specs.declared.rows.UsageRow.{UsageRow}

-- the table of these rows
abbrev pub table_of : LimitSet → CalendarTerms → List (List ℕ) → List (List ℕ) → List PairRow → List SourceRow → List BillRow
    → List DemandRow
    → List ReceiptRow → List ShipRow → List CumRow → List ResetRow → List FirmRow → List PolicyRow → List UsageRow
    → List Vendor → Bool → Table
table_of limits calendar plants items pairs sources bills demands receipts ships cums resets firms policies usages
    vendors ended = record {
      limits = limits;
      calendar = calendar;
      plants = plants;
      items = items;
      pairs = pairs;
      sources = sources;
      bills = bills;
      demands = demands;
      receipts = receipts;
      ships = ships;
      cums = cums;
      resets = resets;
      firms = firms;
      policies = policies;
      usages = usages;
      vendors = vendors;
      ended = ended;
    }

-- whether the pair behind a source has no row
abbrev pub lacks_pair : Table → SourceRow → Bool
lacks_pair N s = not (nat_lt (source_pair N s) (length N.pairs))

-- the table with one row more
abbrev pub with_plant : Table → List ℕ → Table
with_plant N name = record N { plants = N.plants ++ name ∷ [] }

-- the items with one that is new or not
abbrev pub add_item : List (List ℕ) → List ℕ → List (List ℕ)
add_item items name = if list_any (bytes_eq name) items then items else items ++ name ∷ []

abbrev pub with_item : Table → List ℕ → Table
with_item N name = record N { items = add_item N.items name }

abbrev pub with_pair : Table → PairRow → Table
with_pair N p = record N { pairs = N.pairs ++ p ∷ [] }

abbrev pub with_source : Table → SourceRow → Table
with_source N s = record N { sources = N.sources ++ s ∷ [] }

abbrev pub with_bill : Table → BillRow → Table
with_bill N b = record N { bills = N.bills ++ b ∷ [] }

abbrev pub with_demand : Table → DemandRow → Table
with_demand N d = record N { demands = N.demands ++ d ∷ [] }

abbrev pub with_receipt : Table → ReceiptRow → Table
with_receipt N r = record N { receipts = N.receipts ++ r ∷ [] }

abbrev pub with_ship : Table → ShipRow → Table
with_ship N s = record N { ships = N.ships ++ s ∷ [] }

abbrev pub with_cum : Table → CumRow → Table
with_cum N c = record N { cums = N.cums ++ c ∷ [] }

abbrev pub with_reset : Table → ResetRow → Table
with_reset N r = record N { resets = N.resets ++ r ∷ [] }

abbrev pub with_firm : Table → FirmRow → Table
with_firm N f = record N { firms = N.firms ++ f ∷ [] }

abbrev pub with_policy : Table → PolicyRow → Table
with_policy N p = record N { policies = N.policies ++ p ∷ [] }

abbrev pub with_usage : Table → UsageRow → Table
with_usage N u = record N { usages = N.usages ++ u ∷ [] }

abbrev pub with_vendor : Table → Vendor → Table
with_vendor N v = record N { vendors = N.vendors ++ v ∷ [] }

-- the table with its `end` row
abbrev pub with_end : Table → Table
with_end N = record N { ended = true }

-- the table with another calendar
abbrev pub with_calendar : Table → CalendarTerms → Table
with_calendar N c = record N { calendar = c }

-- the table of a calendar without any row
abbrev pub empty_table : LimitSet → CalendarTerms → Table
empty_table limits c = table_of limits c [] [] [] [] [] [] [] [] [] [] [] [] [] [] false
