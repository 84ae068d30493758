-- Reading a table as is asked: one that has to be whole, or any.
use Rattle.std.proofs.Common.{◌≡◌, ℕ, ◌+◌, ◌&&◌, not, Bool, true, false, if◌then◌else◌, List, Option, Some, None, Result, Ok, Err, MatchResult}
use Rattle.std.proofs.Common.{IfOk, refl, sym, ap, ◌∙◌, subst}
use Rattle.mrp_commands.specs.declared.reading.Reading.{Reading}
use Rattle.mrp_master_data.specs.Table.{Table}
use Rattle.mrp_master_data.specs.Turns.{row_count}
use Rattle.mrp_validation.specs.declared.fault.TableFault.{TableFault}
use Rattle.mrp_validation.specs.declared.fault.TableFaultKind.{TableFaultKind}
use Rattle.mrp_validation.specs.declared.fault.TableFaultKind.TheVariants as fault
use Rattle.mrp_validation.specs.declared.kind.Kind.{Kind}
use Rattle.mrp_validation.specs.declared.kind.Kind.TheVariants as kind
use Rattle.mrp_validation.specs.Left.{OfLeft, TakesRow}
use Rattle.mrp_validation.specs.Reading.{first_lacking, go_on, IsSoundAbove, OfRows, Reads, ReadsAs, rows_after, Starts, TellsRows, TellsRowsAs, uncut}
use Rattle.mrp_validation.specs.Reading.{unless_lacking, waiting}
use Rattle.mrp_validation.specs.Written.{OfRecords}
use Rattle.mrp_validation.proofs.Whole.{whole}
use Rattle.mrp_qty.specs.declared.limits.LimitSet.TheVariants as set

-- ---- what follows from what is said of the rows, follows too where it is said of them alone

of_rows : (k : TableFaultKind) (above says more : Type 0) → (says → more) → OfRows k above says → OfRows k above more
of_rows fault.ReadFault above says more go h = h
of_rows fault.Memory above says more go h = h
of_rows _ above says more go h = go h

of_left : (left : Option (List (List (List ℕ)))) (says more : List (List (List ℕ)) → Type 0) → ((rows : List (List (List ℕ))) → says rows → more rows)
    → OfLeft left says → OfLeft left more
of_left None says more go h = tt
of_left (Some rows) says more go h = go rows h

-- ---- a fault of the rows is one however they are read

fault_as : (reading : Reading) (e : TableFault) (rows : List (List (List ℕ))) → TellsRows reading.limits (Err e) rows → TellsRowsAs reading (Err e) rows
fault_as reading e rows = of_rows e.kind (IsSoundAbove reading.limits e.row rows) (Reads reading.limits rows (Err e)) (ReadsAs reading rows (Err e))
    (λ reads. (Err e, reads, refl))

pub left_as : (reading : Reading) (left : Option (List (List (List ℕ)))) (e : TableFault) → OfLeft left (TellsRows reading.limits (Err e))
    → OfLeft left (TellsRowsAs reading (Err e))
left_as reading left e = of_left left (TellsRows reading.limits (Err e)) (TellsRowsAs reading (Err e)) (fault_as reading e)

-- ---- the rows are all there

tells_end : (reading : Reading) (N : Table) (rows : List (List (List ℕ))) (b : Bool) → Reads reading.limits rows (Ok N)
    → uncut reading N ≡ (if b then Err (record { row = row_count N + 1; kind = fault.Cut }) else Ok N)
    → TellsRowsAs reading (if b then Err (record { row = row_count N + 1; kind = fault.Cut }) else Ok N) rows
tells_end reading N rows true reads same = (Ok N, reads, sym same)
tells_end reading N rows false reads same = (Ok N, reads, sym same)

tells_waiting : (reading : Reading) (N : Table) (o : Option ℕ) (rows : List (List (List ℕ))) → TellsRows reading.limits (unless_lacking N o) rows
    → TellsRowsAs reading (go_on (unless_lacking N o) (uncut reading)) rows
tells_waiting reading N None rows reads = tells_end reading N rows (reading.whole && not N.ended) reads refl
tells_waiting reading N (Some x) rows reads = (unless_lacking N (Some x), reads, refl)

matches : (r : Result Table TableFault) → MatchResult r (λ M. r ≡ Ok M) (λ e. r ≡ Err e)
matches (Ok M) = refl
matches (Err e) = refl

pub whole_as : (reading : Reading) (left after : Option (List (List (List ℕ)))) (row : List (List ℕ)) (M : Table) (k : Kind) (N : Table)
    (result : Result Table TableFault)
    → TakesRow left after row → Starts reading.limits row (Ok M) × (k ≡ kind.Run)
    → OfLeft after (λ rows. rows_after 2 (M, k) rows ≡ Ok N) → result ≡ go_on (waiting N) (uncut reading)
    → OfLeft left (TellsRowsAs reading result)
whole_as reading left after row M k N result takes tells rest same =
    let all = whole reading.limits left after row M k N (waiting N) takes tells rest (matches (waiting N)) in
    rw same (of_left left (TellsRows reading.limits (waiting N)) (TellsRowsAs reading (go_on (waiting N) (uncut reading)))
    (tells_waiting reading N (first_lacking N N.sources)) all)

-- a missing pair is told first
pub lacks_first : (reading : Reading) (N : Table) (e : TableFault) → waiting N ≡ Err e
    → ◌≡◌ {A = Result Table TableFault} (Err e) (go_on (waiting N) (uncut reading))
lacks_first reading N e waits = sym (ap (λ (r : Result Table TableFault). go_on r (uncut reading)) waits)

-- then that there is no end
pub cut_last : (reading : Reading) (N : Table) (row : ℕ) → waiting N ≡ Ok N → (reading.whole && not N.ended) ≡ true → row ≡ row_count N + 1
    → ◌≡◌ {A = Result Table TableFault} (Err (record { row = row; kind = fault.Cut })) (go_on (waiting N) (uncut reading))
cut_last reading N row waits is same = rw (waits, is, same) refl

pub kept_last : (reading : Reading) (N M : Table) → waiting N ≡ Ok N → (reading.whole && not N.ended) ≡ false → M ≡ N
    → ◌≡◌ {A = Result Table TableFault} (Ok M) (go_on (waiting N) (uncut reading))
kept_last reading N M waits is same = rw (waits, is, same) refl

-- ---- a table that has to be whole, and is read, ends

whole_is : (whole ended : Bool) (e : TableFault) (N M : Table) → N.ended ≡ ended
    → ◌≡◌ {A = Result Table TableFault} (if whole && not ended then Err e else Ok N) (Ok M) → whole ≡ true → M.ended ≡ true
whole_is true true e N M end same w = let is : N ≡ M = cc in ap (λ (t : Table). t.ended) (sym is) ∙ end
whole_is true false e N M end same w = absurd (cc)
whole_is false ended e N M end same w = absurd (cc)

ends_by : (reading : Reading) (N M : Table) (o : Option ℕ) → ◌≡◌ {A = Result Table TableFault} (Ok M) (go_on (unless_lacking N o) (uncut reading))
    → reading.whole ≡ true → M.ended ≡ true
ends_by reading N M None same = whole_is reading.whole N.ended (record { row = row_count N + 1; kind = fault.Cut }) N M refl (sym same)
ends_by reading N M (Some x) same = absurd (cc)

pub whole_ends : (reading : Reading) (N : Table) (result : Result Table TableFault) → result ≡ go_on (waiting N) (uncut reading)
    → IfOk result (λ M. reading.whole ≡ true → M.ended ≡ true)
whole_ends reading N (Ok M) same = ends_by reading N M (first_lacking N N.sources) same
whole_ends reading N (Err e) same = tt

-- ---- a table that need not be whole is read as it stands

abbrev plainly : Reading
plainly = record { whole = false; limits = set.Usual }

plain_is : (r : Result Table TableFault) → go_on r (uncut plainly) ≡ r
plain_is (Ok N) = refl
plain_is (Err e) = refl

reads_plainly : (r : Result Table TableFault) (rows : List (List (List ℕ))) → ReadsAs plainly rows r → Reads set.Usual rows r
reads_plainly r rows h = subst (Reads set.Usual rows) (sym (h.2 ∙ plain_is h.0)) h.1

tells_plainly : (r : Result Table TableFault) (rows : List (List (List ℕ))) → TellsRowsAs plainly r rows → TellsRows set.Usual r rows
tells_plainly (Ok N) rows h = reads_plainly (Ok N) rows h
tells_plainly (Err e) rows h = of_rows e.kind (IsSoundAbove set.Usual e.row rows) (ReadsAs plainly rows (Err e)) (Reads set.Usual rows (Err e))
    (reads_plainly (Err e) rows) h

pub plain : (text : Option (List ℕ)) (r : Result Table TableFault) → OfRecords text (TellsRowsAs plainly r) → OfRecords text (TellsRows set.Usual r)
plain None r h = tt
plain (Some bytes) r h = tells_plainly r _ h
