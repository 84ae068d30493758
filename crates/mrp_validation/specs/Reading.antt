-- The grammar that validates a whole table: its rows one after the other, and the test that waits for the last.
use Rattle.std.specs.Prelude.{◌≡◌, ℕ, ◌+◌, ◌*◌, ◌≤◌, ◌<◌, ◌&&◌, not, Bool, true, false, if◌then◌else◌, List, [], ◌∷◌, ◌++◌, length}
use Rattle.std.specs.Prelude.{Option, Some, None, Result}
use Rattle.std.specs.Prelude.{Ok, Err}
use Rattle.std.specs.List.{list_all}
use Rattle.std.specs.Str.{is_utf8}
use Rattle.mrp_cal.specs.Calendar.{CalendarTerms, IsCalendar}
use Rattle.mrp_cal.specs.Made.{IsCalendarFrom, IsRefused}
use Rattle.mrp_cal.specs.declared.fault.CalFault.{CalFault}
use Rattle.mrp_validation.specs.declared.fault.TableFault.{TableFault}
use Rattle.mrp_validation.specs.declared.fault.TableFaultKind.{TableFaultKind}
use Rattle.mrp_validation.specs.declared.fault.TableFaultKind.TheVariants as fault
use Rattle.mrp_validation.specs.declared.kind.Kind.{Kind}
use Rattle.mrp_validation.specs.declared.kind.Kind.TheVariants as kind
use Rattle.mrp_master_data.specs.declared.rows.SourceRow.{SourceRow}
use Rattle.mrp_master_data.specs.Table.{IsOnce, IsRead, IsSourced, Table}
use Rattle.mrp_master_data.specs.Growing.{empty_table}
use Rattle.mrp_qty.specs.declared.limits.LimitSet.{LimitSet}
use Rattle.mrp_qty.specs.declared.limits.TheConstants.{MOST_SOURCES_OF_PAIR}
use Rattle.mrp_master_data.specs.Growing.{lacks_pair}
use Rattle.mrp_master_data.specs.Turns.{row_count}
use Rattle.mrp_commands.specs.declared.reading.Reading.{Reading}
use Rattle.mrp_validation.specs.Grammar.{◌>>=◌, bill_row, check, cum_row, demand_row, firm_row, may_follow, pair_row}
use Rattle.mrp_validation.specs.Grammar.{day_row, end_row, kind_place, policy_row}
use Rattle.mrp_validation.specs.Grammar.{plant_row, receipt_row, reset_row}
use Rattle.mrp_validation.specs.Grammar.{row_kind, run_terms, RunTerms, ship_row, usage_row, vendor_row}

-- the kind of a row whose fields are text
unfoldable pub kind_of_row : List (List ℕ) → Result Kind TableFaultKind
kind_of_row row = do
  _ ← check (list_all is_utf8 row) fault.NotUtf8
  row_kind row

-- the table with one row more of that kind
unfoldable pub row_of_kind : Kind → Table → List (List ℕ) → Result Table TableFaultKind
row_of_kind kind.Run N row = Err fault.KindOrder
row_of_kind kind.Plant N row = plant_row N row
row_of_kind kind.Pair N row = pair_row N row
row_of_kind kind.Bill N row = bill_row N row
row_of_kind kind.Demand N row = demand_row N row
row_of_kind kind.Receipt N row = receipt_row N row
row_of_kind kind.Ship N row = ship_row N row
row_of_kind kind.Cum N row = cum_row N row
row_of_kind kind.Reset N row = reset_row N row
row_of_kind kind.Firm N row = firm_row N row
row_of_kind kind.Policy N row = policy_row N row
row_of_kind kind.Usage N row = usage_row N row
row_of_kind kind.Vendor N row = vendor_row N row
row_of_kind kind.Day N row = day_row N row
row_of_kind kind.End N row = end_row N row

-- ---- the first row

abbrev pub is_run : Kind → Bool
is_run kind.Run = true
is_run kind.Plant = false
is_run kind.Pair = false
is_run kind.Bill = false
is_run kind.Demand = false
is_run kind.Receipt = false
is_run kind.Ship = false
is_run kind.Cum = false
is_run kind.Reset = false
is_run kind.Firm = false
is_run kind.Policy = false
is_run kind.Usage = false
is_run kind.Vendor = false
is_run kind.Day = false
is_run kind.End = false

-- what the first row spells
unfoldable pub first_terms : LimitSet → List (List ℕ) → Result RunTerms TableFaultKind
first_terms limits row = do
  k ← kind_of_row row
  _ ← check (is_run k) fault.KindOrder
  run_terms limits row

-- the calendar of a run, or why there is none
abbrev pub IsCalendarOf : RunTerms → Result CalendarTerms CalFault → Type 0
IsCalendarOf t (Ok c) = IsCalendarFrom t.first t.days t.periods c × IsCalendar c
IsCalendarOf t (Err e) = IsRefused t.first t.days t.periods e

abbrev pub started : LimitSet → Result CalendarTerms CalFault → Result Table TableFaultKind
started limits (Ok c) = Ok (empty_table limits c)
started limits (Err e) = Err (fault.CalendarFault e)

-- what a run's terms make
abbrev pub StartsWith : LimitSet → Result RunTerms TableFaultKind → Result Table TableFaultKind → Type 0
StartsWith limits (Err e) start = start ≡ Err e
StartsWith limits (Ok t) start = (c : Result CalendarTerms CalFault) × IsCalendarOf t c × (start ≡ started limits c)

-- what the first row makes, of a table within these limits
abbrev pub Starts : LimitSet → List (List ℕ) → Result Table TableFaultKind → Type 0
Starts limits row start = StartsWith limits (first_terms limits row) start

-- ---- the rows after it

-- the table and the kind of its last row, after one row more
unfoldable pub row_after : Table × Kind → List (List ℕ) → Result (Table × Kind) TableFaultKind
row_after s row = do
  k ← kind_of_row row
  _ ← check (may_follow k s.1) fault.KindOrder
  N ← row_of_kind k s.0 row
  Ok (N, k)

-- what the rows read so far say: no row stands twice, pairs come from where the table says, and each
-- pair row names one item and at most four sources; no count starts anew before the reset rows, no vendor is named
-- before the vendor rows, and the end comes last
pub record IsReadSoFar (N : Table) (last : Kind) : Type 0 where
  pub read : IsRead N
  pub once : IsOnce N
  pub sourced : IsSourced N
  pub items : length N.items ≤ length N.pairs
  pub sources : length N.sources ≤ MOST_SOURCES_OF_PAIR * length N.pairs
  pub resets : kind_place last < kind_place kind.Reset → N.resets ≡ []
  pub vendors : kind_place last < kind_place kind.Vendor → N.vendors ≡ []
  pub ended : kind_place last < kind_place kind.End → N.ended ≡ false

-- a row's fault with its number
abbrev pub at_row : {A : Type 0} → ℕ → Result A TableFaultKind → Result A TableFault
at_row number (Ok x) = Ok x
at_row number (Err e) = Err (record { row = number; kind = e })

-- go on with what was read
abbrev pub go_on : {A B : Type 0} → Result A TableFault → (A → Result B TableFault) → Result B TableFault
go_on (Ok x) more = more x
go_on (Err e) more = Err e

-- the table after these rows, the first of which has that number
unfoldable pub rows_after : ℕ → Table × Kind → List (List (List ℕ)) → Result Table TableFault
rows_after number s [] = Ok s.0
rows_after number s (row ∷ rows) = go_on (at_row number (row_after s row)) (λ t. rows_after (number + 1) t rows)

-- ---- the test that waits for the last row

-- the number of a pair's row: the run and the plants stand before the pairs
abbrev pub pair_row_number : Table → ℕ → ℕ
pair_row_number N x = 1 + length N.plants + x + 1

-- the pair of the first source that has no pair behind it
unfoldable pub first_lacking : Table → List SourceRow → Option ℕ
first_lacking N [] = None
first_lacking N (s ∷ ss) = if lacks_pair N s then Some s.pair.0 else first_lacking N ss

abbrev pub unless_lacking : Table → Option ℕ → Result Table TableFault
unless_lacking N None = Ok N
unless_lacking N (Some x) = Err (record { row = pair_row_number N x; kind = fault.UnknownPair })

-- each pair that a pair is taken from has a row
abbrev pub waiting : Table → Result Table TableFault
waiting N = unless_lacking N (first_lacking N N.sources)

-- ---- the whole table

-- what the rows after the run make
abbrev pub read_from : Result Table TableFaultKind → List (List (List ℕ)) → Result Table TableFault
read_from start rows = go_on (at_row 1 start) (λ N. go_on (rows_after 2 (N, kind.Run) rows) waiting)

-- within these limits the rows make that table, or have that first fault
abbrev pub Reads : LimitSet → List (List (List ℕ)) → Result Table TableFault → Type 0
Reads limits [] read = read ≡ Err (record { row = 0; kind = fault.Empty })
Reads limits (row ∷ rows) read =
    (start : Result Table TableFaultKind) × Starts limits row start × (read ≡ read_from start rows)

-- a table that has to be whole ends with an `end` row, or it was cut off behind its last row
abbrev pub uncut : Reading → Table → Result Table TableFault
uncut reading N =
    if reading.whole && not N.ended then Err (record { row = row_count N + 1; kind = fault.Cut }) else Ok N

-- so it is of the rows, where they are read as is asked
abbrev pub ReadsAs : Reading → List (List (List ℕ)) → Result Table TableFault → Type 0
ReadsAs reading rows read =
    (plain : Result Table TableFault) × Reads reading.limits rows plain × (read ≡ go_on plain (uncut reading))

-- rows from the first one on that hold no fault; what waits for the last row is not tested
abbrev pub HoldNoFault : LimitSet → List (List (List ℕ)) → Type 0
HoldNoFault limits [] = Unit {0}
HoldNoFault limits (row ∷ rows) =
    (N : Table) × (M : Table) × Starts limits row (Ok N) × (rows_after 2 (N, kind.Run) rows ≡ Ok M)

-- the rows above the row of that number are all there, and hold no fault
pub record IsSoundAbove (limits : LimitSet) (number : ℕ) (rows : List (List (List ℕ))) : Type 0 where
  pub above : List (List (List ℕ))
  pub rest : List (List (List ℕ))
  pub rows_are : rows ≡ above ++ rest
  pub number_is : number ≡ length above + 1
  pub no_fault : HoldNoFault limits above

-- that the reader failed, or that memory was wanting, says something of the rows above alone; each other fault is a
-- row's
abbrev pub OfRows : TableFaultKind → Type 0 → Type 0 → Type 0
OfRows fault.ReadFault above says = above
OfRows fault.Memory above says = above
OfRows e above says = says

-- what a test of a row answers is of the row, but that memory was wanting
abbrev pub UnlessMemory : TableFaultKind → Type 0 → Type 0
UnlessMemory fault.Memory says = Unit {0}
UnlessMemory e says = says

-- the answer is what the rows make, or their first fault; where the reader failed, or memory was wanting, the rows
-- above the named one hold no fault
abbrev pub TellsRows : LimitSet → Result Table TableFault → List (List (List ℕ)) → Type 0
TellsRows limits (Ok N) rows = Reads limits rows (Ok N)
TellsRows limits (Err e) rows = OfRows e.kind (IsSoundAbove limits e.row rows) (Reads limits rows (Err e))

-- so it is of rows that are read as is asked
abbrev pub TellsRowsAs : Reading → Result Table TableFault → List (List (List ℕ)) → Type 0
TellsRowsAs reading (Ok N) rows = ReadsAs reading rows (Ok N)
TellsRowsAs reading (Err e) rows =
    OfRows e.kind (IsSoundAbove reading.limits e.row rows) (ReadsAs reading rows (Err e))
