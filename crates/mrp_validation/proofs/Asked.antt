-- What follows for validation from how rows are to be read: whole, or any.
use Rattle.std.proofs.Common.{◌≡◌, ℕ, ◌+◌, ◌&&◌, Bool, true, false, not, if◌then◌else◌, List, [], ◌∷◌, length, Option, Some, None, Result, Ok, Err, IfErr}
use Rattle.std.proofs.Common.{refl, ap, sym, ◌∙◌, subst}
use Rattle.mrp_commands.specs.declared.reading.Reading.{Reading}
use Rattle.mrp_master_data.specs.Table.{Table}
use Rattle.mrp_master_data.specs.Turns.{row_count}
use Rattle.mrp_validation.specs.declared.fault.TableFault.{TableFault}
use Rattle.mrp_validation.specs.declared.fault.TableFaultKind.{TableFaultKind}
use Rattle.mrp_validation.specs.declared.fault.TableFaultKind.TheVariants as fault
use Rattle.mrp_validation.specs.declared.kind.Kind.{Kind}
use Rattle.mrp_validation.specs.declared.kind.Kind.TheVariants as kind
use Rattle.mrp_validation.specs.Asked.{CutTablesAreRefused, LacksItsEnd, OtherFaultsStay, ReadsAreOneAs, UsualReadingAsksNothing, WholeTablesEnd}
use Rattle.mrp_validation.specs.Faults.{IsListedFault}
use Rattle.mrp_validation.specs.Reading.{at_row, first_lacking, go_on, pair_row_number, Reads, ReadsAs, read_from, row_after, rows_after, Starts, uncut}
use Rattle.mrp_validation.specs.Reading.{unless_lacking, waiting}
use Rattle.mrp_validation.proofs.Ends.{rows_counted}
use Rattle.mrp_validation.proofs.KeepingSteps.{same_Ok}
use Rattle.mrp_validation.proofs.Listed.{first-listed, later-listed, not_cut}
use Rattle.mrp_validation.proofs.OneWay.{reads_one_way}
use Rattle.mrp_validation.proofs.WrittenTable.{written_out}
use Rattle.mrp_qty.specs.declared.limits.LimitSet.{LimitSet}

-- ---- rows alone have no such fault

same_Err : {A E : Type 0} (e f : E) → ◌≡◌ {A = Result A E} (Err e) (Err f) → e ≡ f
same_Err e f is = cc

waits_no_cut : (N : Table) (o : Option ℕ) (e : TableFault) → unless_lacking N o ≡ Err e → e.kind ≡ fault.Cut → ⊥
waits_no_cut N None e same cut = cc
waits_no_cut N (Some x) e same cut =
    let is : record { row = pair_row_number N x; kind = fault.UnknownPair } ≡ e = cc in
    let other : fault.UnknownPair ≡ fault.Cut = ap (λ (f : TableFault). f.kind) is ∙ cut in
    cc

-- a fault of a row
row_no_cut : (row : List (List ℕ)) (number : ℕ) (k : TableFaultKind) (e : TableFault) → IsListedFault row k
    → ◌≡◌ {A = TableFault} (record { row = number; kind = k }) e → e.kind ≡ fault.Cut → ⊥
row_no_cut row number k e listed is cut = not_cut row k listed (ap (λ (f : TableFault). f.kind) is ∙ cut)

rows_no_cut : (rows : List (List (List ℕ))) (number : ℕ) (s : Table × Kind) (e : TableFault) → rows_after number s rows ≡ Err e → e.kind ≡ fault.Cut → ⊥
unfolding rows_after
rows_no_cut [] number s e is cut = cc
rows_no_cut (row ∷ rows) number s e is cut =
    by (row_after s row) (later-listed s row) is (λ t rest. rows_no_cut rows (number + 1) t e rest cut)
  where
    by : (r : Result (Table × Kind) TableFaultKind) → IfErr r (IsListedFault row) → go_on (at_row number r) (λ t. rows_after (number + 1) t rows) ≡ Err e
        → ((t : Table × Kind) → rows_after (number + 1) t rows ≡ Err e → ⊥) → ⊥
    by (Ok t) listed is rest = rest t is
    by (Err k) listed is rest = row_no_cut row number k e listed (same_Err _ e is) cut

all_no_cut : (rows : List (List (List ℕ))) (s : Table × Kind) (e : TableFault) → go_on (rows_after 2 s rows) waiting ≡ Err e → e.kind ≡ fault.Cut → ⊥
all_no_cut rows s e is cut = by (rows_after 2 s rows) refl is
  where
    by : (r : Result Table TableFault) → rows_after 2 s rows ≡ r → go_on r waiting ≡ Err e → ⊥
    by (Ok N) read is = waits_no_cut N (first_lacking N N.sources) e is cut
    by (Err f) read is = rows_no_cut rows 2 s e (read ∙ is) cut

start_no_cut : (limits : LimitSet) (row : List (List ℕ)) (rows : List (List (List ℕ))) (start : Result Table TableFaultKind) (e : TableFault)
    → Starts limits row start
    → Err e ≡ read_from start rows → e.kind ≡ fault.Cut → ⊥
start_no_cut limits row rows (Ok N) e starts is cut = all_no_cut rows (N, kind.Run) e (sym is) cut
start_no_cut limits row rows (Err k) e starts is cut = row_no_cut row 1 k e (first-listed limits row k starts) (same_Err _ e (sym is)) cut

reads_no_cut : (limits : LimitSet) (rows : List (List (List ℕ))) (e : TableFault) → Reads limits rows (Err e) → e.kind ≡ fault.Cut → ⊥
reads_no_cut limits [] e is cut =
    let same : record { row = 0; kind = fault.Empty } ≡ e = cc in
    let other : fault.Empty ≡ fault.Cut = ap (λ (f : TableFault). f.kind) same ∙ cut in
    cc
reads_no_cut limits (row ∷ rows) e reads cut = start_no_cut limits row rows reads.0 e reads.1 reads.2 cut

-- ---- what is asked of a table

-- whether it has to be whole, whether it ends, and the number of the row behind its last
abbrev asked : Bool → Bool → ℕ → Table → Result Table TableFault
asked whole ended row N = if whole && not ended then Err (record { row = row; kind = fault.Cut }) else Ok N

asked_ok : (whole ended : Bool) (row : ℕ) (M N : Table) → asked whole ended row M ≡ Ok N → (M ≡ N) × (whole ≡ true → ended ≡ true)
asked_ok true true row M N is = (same_Ok M N is, λ _. refl)
asked_ok true false row M N is = absurd (cc)
asked_ok false ended row M N is = (same_Ok M N is, λ w. absurd (cc))

is_asked : (whole ended : Bool) (row : ℕ) (N : Table) → (whole ≡ true → ended ≡ true) → asked whole ended row N ≡ Ok N
is_asked true true row N ends = refl
is_asked true false row N ends = let no : false ≡ true = ends refl in absurd (cc)
is_asked false ended row N ends = refl

-- what is refused
record IsCut (whole ended : Bool) (row : ℕ) (e : TableFault) : Type 0 where
  whole_is : whole ≡ true
  ended_is : ended ≡ false
  fault_is : e ≡ record { row = row; kind = fault.Cut }

asked_err : (whole ended : Bool) (row : ℕ) (M : Table) (e : TableFault) → asked whole ended row M ≡ Err e → IsCut whole ended row e
asked_err true true row M e is = absurd (cc)
asked_err true false row M e is = record { whole_is = refl; ended_is = refl; fault_is = sym (same_Err _ e is) }
asked_err false ended row M e is = absurd (cc)

cut_off : (whole ended : Bool) (row : ℕ) (M : Table) → whole ≡ true → ended ≡ false → asked whole ended row M ≡ Err (record { row = row; kind = fault.Cut })
cut_off true false row M w e = refl
cut_off true true row M w e = absurd (cc)
cut_off false ended row M w e = absurd (cc)

-- ---- the laws

pub one_way_as : (reading : Reading) (rows : List (List (List ℕ))) (a b : Result Table TableFault) → ReadsAreOneAs reading rows a b
one_way_as reading rows a b h k =
    h.2 ∙ ap (λ (plain : Result Table TableFault). go_on plain (uncut reading)) (reads_one_way reading.limits rows h.0 k.0 h.1 k.1) ∙ sym k.2

-- where nothing is asked a table stays
nothing_asked : (reading : Reading) → reading.whole ≡ false → (plain : Result Table TableFault) → go_on plain (uncut reading) ≡ plain
nothing_asked reading none (Ok N) = is_asked reading.whole N.ended (row_count N + 1) N (λ w. absurd (cc))
nothing_asked reading none (Err e) = refl

pub usual : (reading : Reading) (rows : List (List (List ℕ))) (read : Result Table TableFault) → UsualReadingAsksNothing reading rows read
usual reading rows read none = (
  λ h. subst (Reads reading.limits rows) (sym (h.2 ∙ nothing_asked reading none h.0)) h.1,
  λ reads. (read, reads, sym (nothing_asked reading none read)),
)

whole_is : (reading : Reading) (rows : List (List (List ℕ))) (N : Table) (plain : Result Table TableFault) → Reads reading.limits rows plain
    → Ok N ≡ go_on plain (uncut reading) → Reads reading.limits rows (Ok N) × (reading.whole ≡ true → N.ended ≡ true)
whole_is reading rows N (Ok M) reads is =
    let a = asked_ok reading.whole M.ended (row_count M + 1) M N (sym is) in
    subst (λ (m : Table). Reads reading.limits rows (Ok m) × (reading.whole ≡ true → m.ended ≡ true)) a.0 (reads, a.1)
whole_is reading rows N (Err e) reads is = absurd (cc)

pub whole_end : (reading : Reading) (rows : List (List (List ℕ))) (N : Table) → WholeTablesEnd reading rows N
whole_end reading rows N = (
  λ h. whole_is reading rows N h.0 h.1 h.2,
  λ h. (Ok N, h.0, sym (is_asked reading.whole N.ended (row_count N + 1) N h.1)),
)

-- the row behind the last
row_behind : (limits : LimitSet) (rows : List (List (List ℕ))) (M : Table) → Reads limits rows (Ok M) → row_count M + 1 ≡ length rows + 1
row_behind limits rows M reads = ap (λ (n : ℕ). n + 1) (sym (ap length (written_out limits rows M reads) ∙ rows_counted M))

cut_is : (reading : Reading) (rows : List (List (List ℕ))) (e : TableFault) → e.kind ≡ fault.Cut → (plain : Result Table TableFault)
    → Reads reading.limits rows plain
    → Err e ≡ go_on plain (uncut reading) → (reading.whole ≡ true) × LacksItsEnd reading.limits rows e
cut_is reading rows e cut (Ok M) reads is =
    let c = asked_err reading.whole M.ended (row_count M + 1) M e (sym is) in (
      c.whole_is,
      record {
        table = M;
        reads = reads;
        unended = c.ended_is;
        row = ap (λ (f : TableFault). f.row) c.fault_is ∙ row_behind reading.limits rows M reads;
      },
    )
cut_is reading rows e cut (Err f) reads is = absurd (reads_no_cut reading.limits rows f reads (ap (λ (g : TableFault). g.kind) (sym (same_Err e f is)) ∙ cut))

same_fault : (e : TableFault) (row : ℕ) → e.kind ≡ fault.Cut → e.row ≡ row → e ≡ record { row = row; kind = fault.Cut }
same_fault e row k r = rw (← k, ← r) refl

lacks_end : (reading : Reading) (rows : List (List (List ℕ))) (e : TableFault) → e.kind ≡ fault.Cut → reading.whole ≡ true → LacksItsEnd reading.limits rows e
    → ReadsAs reading rows (Err e)
lacks_end reading rows e cut whole l =
    let M = l.table in
    let fault_is = same_fault e (row_count M + 1) cut (l.row ∙ sym (row_behind reading.limits rows M l.reads)) in
    (Ok M, l.reads, ap (λ (f : TableFault). Err f) fault_is ∙ sym (cut_off reading.whole M.ended (row_count M + 1) M whole l.unended))

pub cut_refused : (reading : Reading) (rows : List (List (List ℕ))) (e : TableFault) → CutTablesAreRefused reading rows e
cut_refused reading rows e cut = (
  λ h. cut_is reading rows e cut h.0 h.1 h.2,
  λ h. lacks_end reading rows e cut h.0 h.1,
)

other_is : (reading : Reading) (rows : List (List (List ℕ))) (e : TableFault) → ¬ (e.kind ≡ fault.Cut) → (plain : Result Table TableFault)
    → Reads reading.limits rows plain
    → Err e ≡ go_on plain (uncut reading) → Reads reading.limits rows (Err e)
other_is reading rows e other (Ok M) reads is =
    let c = asked_err reading.whole M.ended (row_count M + 1) M e (sym is) in
    absurd (other (ap (λ (f : TableFault). f.kind) c.fault_is))
other_is reading rows e other (Err f) reads is = subst (λ (g : TableFault). Reads reading.limits rows (Err g)) (sym (same_Err e f is)) reads

pub other_stays : (reading : Reading) (rows : List (List (List ℕ))) (e : TableFault) → OtherFaultsStay reading rows e
other_stays reading rows e other = (λ h. other_is reading rows e other h.0 h.1 h.2, λ reads. (Err e, reads, refl))
