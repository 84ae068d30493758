-- Records as CSV, read row by row.
use Rattle.std.proofs.Common.{◌≡◌, ◌⊎◌, inl, inr, ◌<◌, ◌≤◌, ◌+◌, ℕ, nat_le, Bool, true, false, List, [], ◌∷◌, ◌++◌, length, map, Option, Some, None, Result, Ok}
use Rattle.std.proofs.Common.{Err, refl, sym, ap, subst, ◌∙◌, arith, append_assoc, append-nil, length-append}
use Rattle.std.specs.List.{All}
use Rattle.std.proofs.lemmas.Bool.{true≢false}
use Rattle.std.proofs.lemmas.Bool.Decides.{nat_tests}
use Rattle.std.proofs.lemmas.List.{length-map, length_push, map-append}
use Rattle.std.proofs.lemmas.List.Elements.{All-push}
use Rattle.mrp_master_data.specs.Table.{Table}
use Rattle.mrp_record.specs.declared.record.Record.{Record}
use Rattle.mrp_validation.specs.Left.{OfLeft, TakesRow}
use Rattle.mrp_record_csv.specs.declared.fault.RecordFaultKind.{RecordFaultKind}
use Rattle.mrp_record_csv.specs.declared.fault.RecordFaultKind.TheVariants as fault
use Rattle.mrp_record_csv.specs.Rows.{HasRow, record_fields}
use Rattle.mrp_record_csv.specs.Grammar.{record_of, spelled_record}
use Rattle.mrp_record_csv.proofs.Spelling.{spelled_is}
use Rattle.mrp_record_csv.specs.Reading.{AreRowsOf, HasFault, StartsWithFault, StopsAfter}
use Rattle.mrp_record_csv.specs.Left.{AddsRecord, AreRead, is_of_row, StopsReading, TellsBad, TellsRecordFault, TellsNextRecord, TellsTakenRecord}

-- ---- what one turn answers

room_left : (most len : ℕ) → nat_le most len ≡ false → len < most
room_left most len e = grind (arith, nat_tests)

-- an answer of a row says that there was room for its record
pub room_for : (most count len : ℕ) (answer : Result Bool RecordFaultKind) → len ≡ count → (nat_le most len ≡ true → is_of_row answer ≡ false)
    → is_of_row answer ≡ true → count < most
room_for most count len answer same room row = by (nat_le most len) refl
  where
    by : (b : Bool) → nat_le most len ≡ b → count < most
    by true e = absurd (true≢false (sym row ∙ room e))
    by false e = let lt = room_left most len e in omega (arith, same)

-- a row that isn't text
pub bad_told : (most : ℕ) (N : Table) (before : Option (List (List (List ℕ)))) (count : ℕ) (k : RecordFaultKind) → (is_of_row (Err k) ≡ true → count < most)
    → TellsBad N before k → TellsRecordFault most N before count k
bad_told most N before count fault.ReadFault room bad = tt
bad_told most N before count fault.Memory room bad = tt
bad_told most N before count k room bad = (room refl, bad)

-- a row with a fault
starts_with : (N : Table) (before after : Option (List (List (List ℕ)))) (row : List (List ℕ)) (k : RecordFaultKind) → TakesRow before after row
    → record_of N row ≡ Err k → OfLeft before (λ rows. StartsWithFault N rows k)
starts_with N None after row k takes e = tt
starts_with N (Some rows) None row k takes e = absurd takes
starts_with N (Some rows) (Some rest) row k takes e = (row, rest, takes, e)

pub fault_told : (most : ℕ) (N : Table) (before after : Option (List (List (List ℕ)))) (row : List (List ℕ)) (count : ℕ) (k : RecordFaultKind) → count < most
    → TakesRow before after row → record_of N row ≡ Err k
    → TellsRecordFault most N before count k
fault_told most N before after row count fault.ReadFault room takes e = tt
fault_told most N before after row count fault.Memory room takes e = tt
fault_told most N before after row count k room takes e = (room, starts_with N before after row k takes e)

-- a row or none
pub none_there : (N : Table) (found : Bool) (before after : Option (List (List (List ℕ)))) (row : List (List ℕ)) → found ≡ false
    → TellsTakenRecord N before after row (Ok found) → OfLeft before (λ rows. rows ≡ [])
none_there N true before after row e taken = absurd (true≢false e)
none_there N false before after row e taken = taken

pub some_there : (N : Table) (found : Bool) (before after : Option (List (List (List ℕ)))) (row : List (List ℕ)) → found ≡ true
    → TellsTakenRecord N before after row (Ok found) → TakesRow before after row
some_there N true before after row e taken = taken
some_there N false before after row e taken = absurd (true≢false (sym e))

-- a record
takes_as : (before after : Option (List (List (List ℕ)))) (row fields : List (List ℕ)) → row ≡ fields → TakesRow before after row → TakesRow before after fields
takes_as before after row fields same takes = subst (TakesRow before after) same takes

pub adds_record : (most : ℕ) (N : Table) (before after : Option (List (List (List ℕ)))) (row : List (List ℕ)) (old new : List Record) (r : Record)
    → length old < most → TakesRow before after row
    → spelled_record N row ≡ Ok r → new ≡ old ++ r ∷ [] → AddsRecord most N before after old new
adds_record most N before after row old new r room takes is added =
    let spelled = spelled_is N row r is in
    record {
      added = r;
      has_row = spelled.0;
      takes = takes_as before after row (record_fields N r) spelled.1 takes;
      records = added;
      room = room;
    }

-- why a row's reading stops
pub stops_full : (kind : RecordFaultKind) (failed : Bool) (most count len : ℕ) (left : Option (List (List (List ℕ)))) → len ≡ count
    → StopsReading kind failed (nat_le most len ≡ true) 0 left
    → StopsReading kind failed (most ≤ count) 0 left
stops_full kind failed most count len left same stops is = by (stops is)
  where
    all_read : nat_le most len ≡ true → most ≤ count
    all_read e = grind (arith, nat_tests)

    by : (failed ≡ true) ⊎ ((nat_le most len ≡ true) × OfLeft left (λ rows. 0 < length rows))
        → (failed ≡ true) ⊎ ((most ≤ count) × OfLeft left (λ rows. 0 < length rows))
    by (inl fails) = inl fails
    by (inr more) = inr (all_read more.0, more.1)

-- the two good answers
pub told_none : (most : ℕ) (N : Table) (found : Bool) (before after : Option (List (List (List ℕ)))) (old new : List Record) → found ≡ false
    → TellsNextRecord most N before after old new (Ok found)
    → (new ≡ old) × OfLeft before (λ rows. rows ≡ [])
told_none most N true before after old new e told = absurd (true≢false e)
told_none most N false before after old new e told = told

pub told_record : (most : ℕ) (N : Table) (found : Bool) (before after : Option (List (List (List ℕ)))) (old new : List Record) → found ≡ true
    → TellsNextRecord most N before after old new (Ok found)
    → AddsRecord most N before after old new
told_record most N true before after old new e told = told
told_record most N false before after old new e told = absurd (true≢false (sym e))

-- ---- all turns

-- after one record more
read_on : (N : Table) (all before after : Option (List (List (List ℕ)))) (old : List Record) (r : Record) → AreRead N all before old
    → TakesRow before after (record_fields N r) → AreRead N all after (old ++ r ∷ [])
read_on N None before after old r so_far takes = tt
read_on N (Some rows) None after old r so_far takes = absurd so_far
read_on N (Some rows) (Some left) None old r so_far takes = absurd takes
read_on N (Some rows) (Some left) (Some rest) old r so_far takes =
    so_far ∙ ap (λ t. map (record_fields N) old ++ t) takes
    ∙ sym (append_assoc (map (record_fields N) old) (record_fields N r ∷ []) rest)
    ∙ ap (λ t. t ++ rest) (sym (map-append (record_fields N) old (r ∷ [])))

-- what stands of the records read so far
pub record IsReadSoFar (N : Table) (all left : Option (List (List (List ℕ)))) (records : List Record) : Type 0 where
  pub rows : AreRead N all left records
  pub have_rows : All (HasRow N) records

pub next_so_far : (most : ℕ) (N : Table) (all before after : Option (List (List (List ℕ)))) (old new : List Record) → IsReadSoFar N all before old
    → AddsRecord most N before after old new → IsReadSoFar N all after new
next_so_far most N all before after old new so_far adds =
    subst (IsReadSoFar N all after) (sym adds.records)
    (record {
      rows = read_on N all before after old adds.added so_far.rows adds.takes;
      have_rows = All-push (HasRow N) old adds.added so_far.have_rows adds.has_row;
    })

pub count_next : (most : ℕ) (N : Table) (before after : Option (List (List (List ℕ)))) (old new : List Record) → AddsRecord most N before after old new
    → length new ≡ length old + 1
count_next most N before after old new adds = ap length adds.records ∙ length_push old adds.added

pub few_next : (most : ℕ) (N : Table) (before after : Option (List (List (List ℕ)))) (old new : List Record) → AddsRecord most N before after old new
    → length new ≤ most
few_next most N before after old new adds = let more = count_next most N before after old new adds in let room = adds.room in omega (arith, more, room)

-- at the end
pub whole : (most : ℕ) (N : Table) (all left : Option (List (List (List ℕ)))) (records : List Record) → IsReadSoFar N all left records → OfLeft left (λ rows. rows ≡ [])
    → length records ≤ most
    → OfLeft all (λ rows. AreRowsOf most N rows records)
whole most N None left records so_far ends few = tt
whole most N (Some rows) None records so_far ends few = absurd so_far.rows
whole most N (Some rows) (Some left) records so_far ends few = record {
  rows_are = so_far.rows ∙ ap (λ t. map (record_fields N) records ++ t) ends ∙ append-nil (map (record_fields N) records);
  have_rows = so_far.have_rows;
  few = few;
}

pub ended : (most : ℕ) (N : Table) (all left : Option (List (List (List ℕ)))) (old new : List Record) → IsReadSoFar N all left old → length old ≤ most
    → (new ≡ old) × OfLeft left (λ rows. rows ≡ [])
    → OfLeft all (λ rows. AreRowsOf most N rows new)
ended most N all left old new so_far few ends =
    subst (λ records. OfLeft all (λ rows. AreRowsOf most N rows records)) (sym ends.0) (whole most N all left old so_far ends.1 few)

-- at a fault
stops_there : (most : ℕ) (N : Table) (rows : List (List (List ℕ))) (count : ℕ) (k : RecordFaultKind) → TellsRecordFault most N (Some rows) count k → StopsAfter most count N rows k
stops_there most N rows count fault.ReadFault told = tt
stops_there most N rows count fault.Memory told = tt
stops_there most N rows count k told = told

pub stopped : (most : ℕ) (N : Table) (all left : Option (List (List (List ℕ)))) (records : List Record) (number : ℕ) (k : RecordFaultKind) → IsReadSoFar N all left records
    → number ≡ length records + 1
    → length records ≤ most → TellsRecordFault most N left (length records) k → OfLeft all (λ rows. HasFault most N rows (record { row = number; kind = k }))
stopped most N None left records number k so_far count few told = tt
stopped most N (Some rows) None records number k so_far count few told = absurd so_far.rows
stopped most N (Some rows) (Some left) records number k so_far count few told = record {
  before = records;
  rest = left;
  rows_are = so_far.rows;
  have_rows = so_far.have_rows;
  number = count;
  few = few;
  stops = stops_there most N left (length records) k told;
}

-- why the reading stops
more_rows : (most : ℕ) (N : Table) (all left : Option (List (List (List ℕ)))) (records : List Record) → AreRead N all left records → most ≤ length records
    → OfLeft left (λ rows. 0 < length rows)
    → OfLeft all (λ rows. most < length rows)
more_rows most N None left records so_far full more = tt
more_rows most N (Some rows) None records so_far full more = absurd so_far
more_rows most N (Some rows) (Some left) records so_far full more =
    omega (arith, full, more, ap length so_far, length-append (map (record_fields N) records) left, length-map records (record_fields N))

pub stops_all : (most : ℕ) (N : Table) (all left : Option (List (List (List ℕ)))) (records : List Record) (number : ℕ) (kind : RecordFaultKind) (failed : Bool)
    → IsReadSoFar N all left records
    → number ≡ length records + 1 → length records ≤ most → StopsReading kind failed (most ≤ length records) 0 left
    → StopsReading kind failed (number ≡ most + 1) most all
stops_all most N all left records number kind failed so_far count few stops is = by (stops is)
  where
    last : most ≤ length records → number ≡ most + 1
    last full = omega (arith, count, few, full)

    by : (failed ≡ true) ⊎ ((most ≤ length records) × OfLeft left (λ rows. 0 < length rows))
        → (failed ≡ true) ⊎ ((number ≡ most + 1) × OfLeft all (λ rows. most < length rows))
    by (inl fails) = inl fails
    by (inr more) = inr (last more.0, more_rows most N all left records so_far.rows more.0 more.1)
