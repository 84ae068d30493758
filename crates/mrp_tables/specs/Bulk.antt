-- The reader of tables: rows that it may read apart. What bills, demands, receipts and shipments say is of pairs and lanes
-- alone, not of one another. It is read of the table before it, and taken into the table later, where a bill row may be a
-- second one of its pairs.
use Rattle.std.specs.Prelude.{◌≡◌, ℕ, List, [], ◌∷◌, length, nat_lt, not, Some, Result, Ok, Err}
use Rattle.mrp_master_data.specs.Growing.{with_bill, with_demand, with_receipt, with_ship}
use Rattle.mrp_master_data.specs.Table.{IsBillRow, IsDemandRow, IsReceiptRow, IsShipRow, most, Table}
use Rattle.mrp_validation.specs.Grammar.{◌>>=◌, bill_of, check, demand_of, has_bill, may_follow, receipt_of, ship_of}
use Rattle.mrp_validation.specs.Grammar.{TellsFault}
use Rattle.mrp_validation.specs.Reading.{kind_of_row}
use Rattle.mrp_validation.specs.declared.fault.TableFaultKind.{TableFaultKind}
use Rattle.mrp_validation.specs.declared.fault.TableFaultKind.TheVariants as fault
use Rattle.mrp_validation.specs.declared.kind.Kind.{Kind}
use Rattle.mrp_validation.specs.declared.kind.Kind.TheVariants as kind
use Rattle.mrp_tables.specs.declared.bulk.BulkRow.{BulkRow}
use Rattle.mrp_tables.specs.declared.bulk.BulkRow.TheVariants as bulk
use Rattle.mrp_tables.specs.declared.draft.Draft.{Draft}
use Rattle.mrp_tables.specs.Amounts.{without_bills}
use Rattle.mrp_tables.specs.Drafts.{draft_state}
use Rattle.mrp_tables.specs.Lists.{source_at}

abbrev pub kind_of_bulk : BulkRow → Kind
kind_of_bulk (bulk.Bill b) = kind.Bill
kind_of_bulk (bulk.Demand d) = kind.Demand
kind_of_bulk (bulk.Receipt r) = kind.Receipt
kind_of_bulk (bulk.Ship s place) = kind.Ship

-- a row of the table says that
abbrev pub Says : Table → List (List ℕ) → BulkRow → Type 0
Says N row (bulk.Bill b) = (kind_of_row row ≡ Ok kind.Bill) × (bill_of (without_bills N) row ≡ Ok b)
Says N row (bulk.Demand d) = (kind_of_row row ≡ Ok kind.Demand) × (demand_of N row ≡ Ok d)
Says N row (bulk.Receipt r) = (kind_of_row row ≡ Ok kind.Receipt) × (receipt_of N row ≡ Ok r)
Says N row (bulk.Ship s place) = (kind_of_row row ≡ Ok kind.Ship) × (ship_of N row ≡ Ok s)

-- it is of pairs of the table, and a shipment of a source, with the place of that source
abbrev pub IsBulk : Table → BulkRow → Type 0
IsBulk N (bulk.Bill b) = IsBillRow N b
IsBulk N (bulk.Demand d) = IsDemandRow N d
IsBulk N (bulk.Receipt r) = IsReceiptRow N r
IsBulk N (bulk.Ship s place) = IsShipRow N s × (source_at N s.from.0 s.pair.0 ≡ Some place)

-- so each of the rows says, in order
unfoldable pub SayAll : Table → List (List (List ℕ)) → List BulkRow → Type 0
SayAll N [] [] = Unit {0}
SayAll N [] (b ∷ said) = ⊥
SayAll N (row ∷ rows) [] = ⊥
SayAll N (row ∷ rows) (b ∷ said) = Says N row b × IsBulk N b × SayAll N rows said

-- ---- what was said, taken into the table

-- the table with one more, where there is room, and of a bill row where it is the first of its pairs
abbrev pub with_bulk : Table → BulkRow → Result Table TableFaultKind
with_bulk N (bulk.Bill b) =
    check (not (has_bill N (Some b.parent.0) (Some b.component.0))) fault.Repeated >>= λ u.
    check (nat_lt (length N.bills) (most N).bills) fault.TooMany >>= λ u. Ok (with_bill N b)
with_bulk N (bulk.Demand d) = check (nat_lt (length N.demands) (most N).demands) fault.TooMany
    >>= λ u. Ok (with_demand N d)
with_bulk N (bulk.Receipt r) = check (nat_lt (length N.receipts) (most N).of_a_kind) fault.TooMany
    >>= λ u. Ok (with_receipt N r)
with_bulk N (bulk.Ship s place) = check (nat_lt (length N.ships) (most N).of_a_kind) fault.TooMany
    >>= λ u. Ok (with_ship N s)

-- the table and the kind of its last row, where this kind may follow
unfoldable pub bulk_after : Table × Kind → BulkRow → Result (Table × Kind) TableFaultKind
bulk_after s b = do
  _ ← check (may_follow (kind_of_bulk b) s.1) fault.KindOrder
  N ← with_bulk s.0 b
  Ok (N, kind_of_bulk b)

-- what a step says of the table and the kind that come of it
abbrev pub TellsAfter : Result (Table × Kind) TableFaultKind → Draft → Result (Unit {0}) TableFaultKind → Type 0
TellsAfter read new (Ok u) = read ≡ Ok (draft_state new)
TellsAfter read new (Err e) = TellsFault read e

-- the second table has the pairs, lanes and periods of the first
abbrev pub KeepsNames : Table → Table → Type 0
KeepsNames N M = M ≡ record N { bills = M.bills; demands = M.demands; receipts = M.receipts; ships = M.ships }
