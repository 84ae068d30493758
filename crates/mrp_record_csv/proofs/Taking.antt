-- Records as CSV: what taking a row answers as they are read.
use Rattle.std.proofs.Common.{◌≡◌, ◌<◌, ℕ, Bool, true, false, List, [], ◌∷◌, length, Option, Some, None, Result, Ok, Err, inr, refl, ap, ◌∙◌, arith}
use Rattle.std.specs.List.{list_all}
use Rattle.std.specs.Str.{is_utf8}
use Rattle.std.proofs.lemmas.Bool.{false≢true}
use Rattle.csv.specs.Reading.{ExplainsRead, reader_trim, ReadRecord, Ready}
use Rattle.csv.specs.declared.error.ErrorKind.{ErrorKind}
use Rattle.csv.specs.declared.error.ErrorKind.TheVariants as error
use Rattle.csv.specs.declared.reader.Reader.{Reader}
use Rattle.csv.specs.declared.reader.Trim.TheVariants as trim
use Rattle.mrp_master_data.specs.Table.{Table}
use Rattle.mrp_qty.specs.declared.limits.LimitSet.TheVariants as set
use Rattle.mrp_master_data.specs.Growing.{empty_table}
use Rattle.mrp_validation.specs.declared.fault.TableFaultKind.TheVariants as table_fault
use Rattle.mrp_validation.specs.Left.{GivesAll, rows_left, OfLeft, StartsBadly, TakesRow}
use Rattle.mrp_tables.proofs.Taken.{ends_rows, explains, takes_row}
use Rattle.mrp_validation.proofs.Loop.{of_left_from}
use Rattle.mrp_record_csv.specs.declared.fault.RecordFaultKind.{RecordFaultKind}
use Rattle.mrp_record_csv.specs.declared.fault.RecordFaultKind.TheVariants as fault
use Rattle.mrp_record_csv.specs.Grammar.{record_of}
use Rattle.mrp_record_csv.specs.Reading.{StartsWithFault}
use Rattle.mrp_record_csv.specs.Left.{record_fault_of, is_of_row, StopsReading, TellsBad, TellsTakenRecord}

-- a read that found a row or none
pub found_or_not : {R : Type 0} (rem : R → Option (List ℕ)) (old new : Reader R) (row : List (List ℕ)) (found : Bool) → GivesAll old
    → ReadRecord rem old new found row
    → (N : Table) → TellsTakenRecord N (rows_left rem old) (rows_left rem new) row (Ok found)
found_or_not rem old new row true gives r N = takes_row rem old new row gives r
found_or_not rem old new row false gives r N = ends_rows rem old new row gives r

-- a row that isn't text
no_text_first : (N : Table) (row : List (List ℕ)) → list_all is_utf8 row ≡ false → record_of N row ≡ Err fault.NotUtf8
unfolding record_of
no_text_first N row bad = rw bad refl

bad_row : (N : Table) (rows : List (List (List ℕ))) → StartsBadly 1 rows (record { row = 1; kind = table_fault.NotUtf8 }) → StartsWithFault N rows fault.NotUtf8
bad_row N rows bad = (bad.row, bad.rest, bad.rows_are, no_text_first N bad.row bad.no_text)

-- why a read failed
explains-bad : {R : Type 0} (rem : R → Option (List ℕ)) (old new : Reader R) (why : ErrorKind) → GivesAll old → ExplainsRead rem old new true why
    → (N : Table) → TellsBad N (rows_left rem old) (record_fault_of why)
explains-bad rem old new (error.Io e) gives r N = tt
explains-bad rem old new (error.Utf8 pos e) gives r N = of_left_from (rows_left rem old) _ _ (bad_row N) (explains rem old new 1 (error.Utf8 pos e) gives r)
explains-bad rem old new (error.UnequalLengths pos expected len) gives r N = tt
explains-bad rem old new (error.Serialize text) gives r N = tt
explains-bad rem old new (error.Deserialize pos e) gives r N = tt
explains-bad rem old new error.OutOfMemory gives r N = tt

pub explains_as_kind : {R : Type 0} (rem : R → Option (List ℕ)) (old new : Reader R) (why kind : ErrorKind) (told : RecordFaultKind) → GivesAll old
    → (reader_trim old ≡ trim.None → Ready old → ExplainsRead rem old new true why)
    → kind ≡ why → told ≡ record_fault_of kind → (N : Table) → TellsBad N (rows_left rem old) told
explains_as_kind rem old new why kind told gives explained same is N =
    rw (is ∙ ap record_fault_of same) (explains-bad rem old new why gives (explained gives.1 gives.2) N)

-- ---- a row more than may be read

-- an answer of a row says that a row is there
some_row : (rows rest : List (List (List ℕ))) (row : List (List ℕ)) → rows ≡ row ∷ rest → 0 < length rows
some_row rows rest row same = omega (arith, ap length same)

row_taken : (before after : Option (List (List (List ℕ)))) (row : List (List ℕ)) → TakesRow before after row → OfLeft before (λ rows. 0 < length rows)
row_taken None after row takes = tt
row_taken (Some rows) None row takes = absurd takes
row_taken (Some rows) (Some rest) row takes = some_row rows rest row takes

row_bad : (N : Table) (before : Option (List (List (List ℕ)))) (k : RecordFaultKind) → OfLeft before (λ rows. StartsWithFault N rows k)
    → OfLeft before (λ rows. 0 < length rows)
row_bad N before k bad = of_left_from before (λ rows. StartsWithFault N rows k) (λ rows. 0 < length rows) (λ rows s. some_row rows s.1 s.0 s.2) bad

row_there : (N : Table) (before after : Option (List (List (List ℕ)))) (row : List (List ℕ)) (answer : Result Bool RecordFaultKind) → is_of_row answer ≡ true
    → TellsTakenRecord N before after row answer
    → OfLeft before (λ rows. 0 < length rows)
row_there N before after row (Ok true) own taken = row_taken before after row taken
row_there N before after row (Ok false) own taken = absurd (false≢true own)
row_there N before after row (Err fault.ReadFault) own taken = absurd (false≢true own)
row_there N before after row (Err fault.Memory) own taken = absurd (false≢true own)
row_there N before after row (Err k) own taken = row_bad N before k taken

-- a row more than may be read
pub one_more : (before after : Option (List (List (List ℕ)))) (row : List (List ℕ)) (answer : Result Bool RecordFaultKind) (kind : RecordFaultKind)
    (failed full : Bool) → full ≡ true → is_of_row answer ≡ true
    → ((N : Table) → TellsTakenRecord N before after row answer) → StopsReading kind failed (full ≡ true) 0 before
one_more before after row answer kind failed full is own taken same = inr (is, row_there none before after row answer own (taken none))
  where
    none : Table
    none = empty_table set.Usual (record { first = 0; days = 0; periods = 0; begun = [] })
