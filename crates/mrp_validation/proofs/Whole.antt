-- Validation of the whole table: the first row, the rows after it, and the test that waits for the last.
use Rattle.std.proofs.Common.{◌≡◌, ℕ, false, List, [], ◌∷◌, Option, Some, None, Result, Ok, Err, IfErr, MatchResult, refl, sym, ap, ◌∙◌, subst, option_map}
use Rattle.std.proofs.Common.{arith}
use Rattle.std.specs.List.{list_all}
use Rattle.std.specs.Str.{is_utf8}
use Rattle.csv.specs.declared.parser.State.{State}
use Rattle.csv.specs.declared.parser.State.TheVariants as st
use Rattle.mrp_cal.specs.Calendar.{CalendarTerms}
use Rattle.mrp_cal.specs.declared.fault.CalFault.{CalFault}
use Rattle.mrp_validation.specs.declared.fault.TableFault.{TableFault}
use Rattle.mrp_validation.specs.declared.fault.TableFaultKind.{TableFaultKind}
use Rattle.mrp_validation.specs.declared.fault.TableFaultKind.TheVariants as fault
use Rattle.mrp_validation.specs.declared.kind.Kind.{Kind}
use Rattle.mrp_validation.specs.declared.kind.Kind.TheVariants as kind
use Rattle.mrp_master_data.specs.Table.{Table}
use Rattle.mrp_master_data.specs.Growing.{empty_table}
use Rattle.mrp_validation.specs.Grammar.{RunTerms}
use Rattle.mrp_validation.specs.Left.{IsSoundTo, OfLeft, records_in, StartsBadly, TakesRow}
use Rattle.mrp_validation.specs.Reading.{first_lacking, first_terms, go_on, IsCalendarOf, IsReadSoFar, IsSoundAbove, pair_row_number, OfRows, read_from, Reads}
use Rattle.mrp_validation.specs.Reading.{rows_after, started, Starts, StartsWith, TellsRows, unless_lacking, UnlessMemory, waiting}
use Rattle.mrp_validation.specs.Written.{OfRecords}
use Rattle.mrp_validation.proofs.Keeping.{empty_keeps}
use Rattle.mrp_validation.proofs.Loop.{kind_no_text, of_left_from, of_rows_from, of_unless}
use Rattle.mrp_qty.specs.declared.limits.LimitSet.{LimitSet}
use Rattle.mrp_qty.specs.Limits.{limits_of}
use Rattle.mrp_validation.proofs.KeepingSteps.{after, after_check, after_some, same_Ok}
use Rattle.mrp_validation.proofs.KeepingRead.{ranged_is}
use Rattle.mrp_validation.specs.Grammar.{field, ranged, run_terms}
use Rattle.mrp_validation.specs.Reading.{is_run, kind_of_row}
use Rattle.mrp_master_data.specs.Parsing.{spelled_number}
use Rattle.std.proofs.Common.{◌≤◌}

-- ---- the first row

-- a table that a run starts has no other row
run_is : (limits : LimitSet) (N : Table) (t : RunTerms) (c : Result CalendarTerms CalFault) → IsCalendarOf t c → t.periods ≤ (limits_of limits).periods
    → Ok N ≡ started limits c → IsReadSoFar N kind.Run
run_is limits N t (Ok c) is within e =
    let same : N ≡ empty_table limits c = cc in
    let few : c.periods ≤ (limits_of limits).periods = omega (arith, within, is.0.periods) in
    subst (λ (m : Table). IsReadSoFar m kind.Run) (sym same) (empty_keeps limits c is.1 few)
run_is limits N t (Err e) is within same = absurd (cc)

-- a run has no more periods than the limits say
run_within : (limits : LimitSet) (row : List (List ℕ)) (t : RunTerms) → first_terms limits row ≡ Ok t → t.periods ≤ (limits_of limits).periods
unfolding first_terms run_terms
run_within limits row t is =
    let a = after (kind_of_row row) _ t is in
    let b = after_check (is_run a.0) _ _ t a.2 in
    let c = after_some (spelled_number (field row 2)) _ _ t b.1 in
    let d = after (ranged (field row 3) 1 (limits_of limits).periods) _ t c.2 in
    let same : record { first = field row 1; days = c.0; periods = d.0 } ≡ t = same_Ok _ t d.2 in
    let within = (ranged_is (field row 3) 1 (limits_of limits).periods d.0 d.1).1 in
    subst (λ (t : RunTerms). t.periods ≤ (limits_of limits).periods) same within

starts_keep : (limits : LimitSet) (N : Table) (row : List (List ℕ)) (terms : Result RunTerms TableFaultKind) → first_terms limits row ≡ terms
    → StartsWith limits terms (Ok N) → IsReadSoFar N kind.Run
starts_keep limits N row (Ok t) is s = run_is limits N t s.0 s.1 (run_within limits row t is) s.2
starts_keep limits N row (Err e) is s = absurd (cc s)

pub first_keeps : (limits : LimitSet) (N : Table) (row : List (List ℕ)) → Starts limits row (Ok N) → IsReadSoFar N kind.Run
first_keeps limits N row s = starts_keep limits N row (first_terms limits row) refl s

-- a first row that isn't text
first_no_text : (limits : LimitSet) (row : List (List ℕ)) → list_all is_utf8 row ≡ false → first_terms limits row ≡ Err fault.NotUtf8
unfolding first_terms
first_no_text limits row bad = rw (kind_no_text row bad) refl

start_no_text : (limits : LimitSet) (terms : Result RunTerms TableFaultKind) → terms ≡ Err fault.NotUtf8 → StartsWith limits terms (Err fault.NotUtf8)
start_no_text limits terms e = rw e refl

-- ---- what is said of all rows

-- what is said of a fault is said of the rows
says_under : (left : Option (List (List (List ℕ)))) (k : TableFaultKind) (A P : List (List (List ℕ)) → Type 0) → OfRows k (OfLeft left A) (OfLeft left P)
    → OfLeft left (λ rows. OfRows k (A rows) (P rows))
says_under None k A P says = tt
says_under (Some rows) k A P says = says

-- above the first row there is no fault
sound_first : (limits : LimitSet) (rows : List (List (List ℕ))) (n : ℕ) → n ≡ 1 → IsSoundAbove limits n rows
sound_first limits rows n one = record { above = []; rest = rows; rows_are = refl; number_is = one; no_fault = tt }

left_sound : (limits : LimitSet) (left : Option (List (List (List ℕ)))) (n : ℕ) → n ≡ 1 → OfLeft left (IsSoundAbove limits n)
left_sound limits None n one = tt
left_sound limits (Some rows) n one = sound_first limits rows n one

reads_as : (limits : LimitSet) (rows : List (List (List ℕ))) (row : List (List ℕ)) (rest : List (List (List ℕ))) (start : Result Table TableFaultKind)
    (read : Result Table TableFault) → rows ≡ row ∷ rest → Starts limits row start
    → read ≡ read_from start rest → Reads limits rows read
reads_as limits rows row rest start read same starts e = rw same (start, starts, e)

-- a first row with a field that isn't text
bad_reads : (limits : LimitSet) (rows : List (List (List ℕ))) (e : TableFault) → StartsBadly 1 rows e → Reads limits rows (Err e)
bad_reads limits rows e bad =
    reads_as limits rows bad.row bad.rest (Err fault.NotUtf8) (Err e) bad.rows_are
    (start_no_text limits (first_terms limits bad.row) (first_no_text limits bad.row bad.no_text))
    (ap (λ (f : TableFault). Err f) bad.fault_is)

pub bad_first : (limits : LimitSet) (left : Option (List (List (List ℕ)))) (e : TableFault) → e.row ≡ 1
    → OfRows e.kind (Unit {0}) (OfLeft left (λ rows. StartsBadly 1 rows e))
    → OfLeft left (TellsRows limits (Err e))
bad_first limits left e one bad =
    says_under left e.kind (IsSoundAbove limits e.row) (λ rows. Reads limits rows (Err e))
    (of_rows_from e.kind (Unit {0}) (OfLeft left (IsSoundAbove limits e.row)) (OfLeft left (λ rows. StartsBadly 1 rows e))
    (OfLeft left (λ rows. Reads limits rows (Err e)))
    (λ above. left_sound limits left e.row one)
    (of_left_from left (λ rows. StartsBadly 1 rows e) (λ rows. Reads limits rows (Err e)) (λ rows. bad_reads limits rows e)) bad)

-- no row
empty_reads : (limits : LimitSet) (rows : List (List (List ℕ))) → rows ≡ [] → Reads limits rows (Err (record { row = 0; kind = fault.Empty }))
empty_reads limits rows same = rw same refl

pub no_first : (limits : LimitSet) (left : Option (List (List (List ℕ)))) → OfLeft left (λ rows. rows ≡ [])
    → OfLeft left (TellsRows limits (Err (record { row = 0; kind = fault.Empty })))
no_first limits left none = of_left_from left (λ rows. rows ≡ []) (TellsRows limits (Err (record { row = 0; kind = fault.Empty }))) (empty_reads limits) none

-- a first row with a fault
first_reads : (limits : LimitSet) (e : TableFault) (row : List (List ℕ)) (rest rows : List (List (List ℕ))) → rows ≡ row ∷ rest → e.row ≡ 1
    → Starts limits row (Err e.kind)
    → Reads limits rows (Err e)
first_reads limits e row rest rows same one starts =
    reads_as limits rows row rest (Err e.kind) (Err e) same starts (ap (λ (n : ℕ). Err (record { row = n; kind = e.kind })) one)

pub first_fault : (limits : LimitSet) (left after : Option (List (List (List ℕ)))) (row : List (List ℕ)) (e : TableFault) → TakesRow left after row
    → UnlessMemory e.kind (Starts limits row (Err e.kind)) × (e.row ≡ 1)
    → OfLeft left (TellsRows limits (Err e))
first_fault limits None after row e takes tells = tt
first_fault limits (Some rows) None row e takes tells = absurd takes
first_fault limits (Some rows) (Some rest) row e takes tells =
    of_unless e.kind (IsSoundAbove limits e.row rows) (Starts limits row (Err e.kind)) (Reads limits rows (Err e)) (sound_first limits rows e.row tells.1)
    (first_reads limits e row rest rows takes tells.1) tells.0

-- ---- the rows after the first

from_first : (N : Table) (k : Kind) (rest : List (List (List ℕ))) (answer : Result Table TableFault) (read : Result Table TableFault) → k ≡ kind.Run
    → rows_after 2 (N, k) rest ≡ answer
    → read ≡ go_on answer waiting → read ≡ read_from (Ok N) rest
from_first N k rest answer read run after e = rw (← run) (rw after e)

rest_reads : (limits : LimitSet) (N : Table) (k : Kind) (row : List (List ℕ)) (rest rows : List (List (List ℕ))) (answer read : Result Table TableFault)
    → rows ≡ row ∷ rest
    → Starts limits row (Ok N) → k ≡ kind.Run
    → rows_after 2 (N, k) rest ≡ answer → read ≡ go_on answer waiting → Reads limits rows read
rest_reads limits N k row rest rows answer read same starts run after e = reads_as limits rows row rest (Ok N) read same starts
    (from_first N k rest answer read run after e)

-- the rows above a later row, with the first
sound_from : (limits : LimitSet) (N : Table) (k : Kind) (row : List (List ℕ)) (rest rows : List (List (List ℕ))) (n : ℕ) → rows ≡ row ∷ rest
    → Starts limits row (Ok N) → k ≡ kind.Run
    → IsSoundTo 2 (N, k) n rest → IsSoundAbove limits n rows
sound_from limits N k row rest rows n same starts run h = record {
  above = row ∷ h.above;
  rest = h.rest;
  rows_are = same ∙ ap (λ (l : List (List (List ℕ))). row ∷ l) h.rows_are;
  number_is = omega (arith, h.other_is);
  no_fault = (N, h.made, starts, subst (λ (x : Kind). rows_after 2 (N, x) h.above ≡ Ok h.made) run h.no_fault);
}

-- a later row with a fault
pub rest_fault : (limits : LimitSet) (left after : Option (List (List (List ℕ)))) (row : List (List ℕ)) (N : Table) (k : Kind) (e : TableFault)
    → TakesRow left after row
    → Starts limits row (Ok N) × (k ≡ kind.Run)
    → OfRows e.kind (OfLeft after (IsSoundTo 2 (N, k) e.row)) (OfLeft after (λ rows. rows_after 2 (N, k) rows ≡ Err e)) → OfLeft left (TellsRows limits (Err e))
rest_fault limits None after row N k e takes tells rest = tt
rest_fault limits (Some rows) None row N k e takes tells rest = absurd takes
rest_fault limits (Some rows) (Some more) row N k e takes tells rest =
    of_rows_from e.kind (IsSoundTo 2 (N, k) e.row more) (IsSoundAbove limits e.row rows) (rows_after 2 (N, k) more ≡ Err e) (Reads limits rows (Err e))
    (sound_from limits N k row more rows e.row takes tells.0 tells.1)
    (λ after. rest_reads limits N k row more rows (Err e) (Err e) takes tells.0 tells.1 after refl) rest

-- the rows are all there: what is answered then is the table, or the fault that waits
waits_tells : (limits : LimitSet) (N : Table) (o : Option ℕ) (rows : List (List (List ℕ))) → Reads limits rows (unless_lacking N o)
    → TellsRows limits (unless_lacking N o) rows
waits_tells limits N None rows reads = reads
waits_tells limits N (Some x) rows reads = reads

whole_tells : (limits : LimitSet) (N : Table) (rows : List (List (List ℕ))) (result : Result Table TableFault) → result ≡ waiting N → Reads limits rows result
    → TellsRows limits result rows
whole_tells limits N rows result same reads = rw same (waits_tells limits N (first_lacking N N.sources) rows (rw same at reads))

is_waiting : (N : Table) (result : Result Table TableFault) → MatchResult result (λ M. waiting N ≡ Ok M) (λ e. waiting N ≡ Err e) → result ≡ waiting N
is_waiting N (Ok M) w = sym w
is_waiting N (Err e) w = sym w

pub whole : (limits : LimitSet) (left after : Option (List (List (List ℕ)))) (row : List (List ℕ)) (M : Table) (k : Kind) (N : Table)
    (result : Result Table TableFault)
    → TakesRow left after row → Starts limits row (Ok M) × (k ≡ kind.Run)
    → OfLeft after (λ rows. rows_after 2 (M, k) rows ≡ Ok N) → MatchResult result (λ M. waiting N ≡ Ok M) (λ e. waiting N ≡ Err e)
    → OfLeft left (TellsRows limits result)
whole limits None after row M k N result takes tells rest w = tt
whole limits (Some rows) None row M k N result takes tells rest w = absurd takes
whole limits (Some rows) (Some more) row M k N result takes tells rest w =
    whole_tells limits N rows result (is_waiting N result w) (rest_reads limits M k row more rows (Ok N) result takes tells.0 tells.1 rest
    (is_waiting N result w))

-- the fault that waits is no failed read
waits_own : (N : Table) (o : Option ℕ) (e : TableFault) → unless_lacking N o ≡ Err e → e.kind ≡ fault.ReadFault → ⊥
waits_own N None e same failed = cc
waits_own N (Some x) e same failed =
    let is : record { row = pair_row_number N x; kind = fault.UnknownPair } ≡ e = cc in
    let other : fault.UnknownPair ≡ fault.ReadFault = ap (λ (f : TableFault). f.kind) is ∙ failed in
    cc

-- ---- the text

of_start : (text : Option (List ℕ)) (says : List (List (List ℕ)) → Type 0) → OfLeft (option_map (records_in st.StartRecord) text) says → OfRecords text says
of_start None says h = tt
of_start (Some xs) says h = h

-- what is said of the rows of a reader that stands at the start of a text
pub of_text : (source text : Option (List ℕ)) (s : State) (says : List (List (List ℕ)) → Type 0) → source ≡ text → s ≡ st.StartRecord
    → OfLeft (option_map (records_in s) source) says
    → OfRecords text says
of_text source text s says same start h = of_start text says (rw (same, start) at h)
