-- What validation accepts is a table, and what every accepted one says.
use Rattle.std.proofs.Common.{◌≡◌, ℕ, ◌+◌, ◌<◌, Bool, true, false, not, ltb, List, [], ◌∷◌, position, if◌then◌else◌, Option, Some, None, Result, Ok, Err, refl}
use Rattle.std.proofs.Common.{ap, sym, subst, arith}
use Rattle.std.specs.List.{All}
use Rattle.std.proofs.lemmas.Bool.Decides.{nat_tests}
use Rattle.std.proofs.lemmas.List.Elements.{All-cons, All-nil}
use Rattle.mrp_master_data.specs.Growing.{lacks_pair}
use Rattle.mrp_master_data.specs.Table.{Table, IsTable}
use Rattle.mrp_master_data.specs.declared.rows.SourceRow.{SourceRow}
use Rattle.mrp_master_data.proofs.Keys.{All-from_position}
use Rattle.mrp_validation.specs.declared.fault.TableFault.{TableFault}
use Rattle.mrp_validation.specs.declared.fault.TableFaultKind.{TableFaultKind}
use Rattle.mrp_validation.specs.declared.kind.Kind.{Kind}
use Rattle.mrp_validation.specs.declared.kind.Kind.TheVariants as kind
use Rattle.mrp_validation.specs.Reading.{at_row, first_lacking, go_on, IsReadSoFar, read_from, Reads, row_after, rows_after, Starts, unless_lacking, waiting}
use Rattle.mrp_validation.proofs.Keeping.{row_after_keeps}
use Rattle.mrp_validation.proofs.Whole.{first_keeps}
use Rattle.mrp_qty.specs.declared.limits.LimitSet.{LimitSet}

has_pair : (b : Bool) (k n : ℕ) → ltb k n ≡ b → not b ≡ false → k < n
has_pair true k n t e = grind (arith, nat_tests)
has_pair false k n t e = absurd (cc)

complete : (N : Table) (last : Kind) → IsReadSoFar N last → All (λ s. lacks_pair N s ≡ false) N.sources → IsTable N
complete N last so_far none = record {
  read = so_far.read;
  source_pairs = λ k d lt. has_pair _ _ _ refl (none k d lt);
  once = so_far.once;
  sourced = so_far.sourced;
}

pub table_is : (N : Table) (last : Kind) → IsReadSoFar N last → position (lacks_pair N) N.sources ≡ None → IsTable N
table_is N last so_far none = complete N last so_far (All-from_position (lacks_pair N) N.sources none)

-- ---- what is read

pub went_on : {A B : Type 0} (r : Result A TableFault) (more : A → Result B TableFault) (y : B) → go_on r more ≡ Ok y → (x : A) × (r ≡ Ok x) × (more x ≡ Ok y)
went_on (Ok x) more y e = (x, refl, e)
went_on (Err g) more y e = absurd (cc)

pub was_read : {A : Type 0} (number : ℕ) (r : Result A TableFaultKind) (x : A) → at_row number r ≡ Ok x → r ≡ Ok x
was_read number (Ok y) x e = let same : y ≡ x = cc in ap (λ z. Ok z) same
was_read number (Err g) x e = absurd (cc)

-- the rows after the first
rows_keep : (rows : List (List (List ℕ))) (number : ℕ) (s : Table × Kind) (M : Table) → IsReadSoFar s.0 s.1 → rows_after number s rows ≡ Ok M
    → (last : Kind) × IsReadSoFar M last
unfolding rows_after
rows_keep [] number s M so_far e =
    let same : s.0 ≡ M = cc in
    (s.1, subst (λ (m : Table). IsReadSoFar m s.1) same so_far)
rows_keep (row ∷ rows) number s M so_far e =
    let a = went_on (at_row number (row_after s row)) (λ t. rows_after (number + 1) t rows) M e in
    rows_keep rows (number + 1) a.0 M (row_after_keeps s a.0 row so_far (was_read number (row_after s row) a.0 a.1)) a.2

-- each source has a pair behind it where none is found that lacks it
none_lacks : (N : Table) (ss : List SourceRow) → first_lacking N ss ≡ None → All (λ s. lacks_pair N s ≡ false) ss
unfolding first_lacking
none_lacks N [] e = All-nil (λ s. lacks_pair N s ≡ false)
none_lacks N (s ∷ ss) e = by (lacks_pair N s) refl e (none_lacks N ss)
  where
    by : (b : Bool) → lacks_pair N s ≡ b → ◌≡◌ {A = Option ℕ} (if b then Some s.pair.0 else first_lacking N ss) None
        → (first_lacking N ss ≡ None → All (λ s. lacks_pair N s ≡ false) ss) → All (λ s. lacks_pair N s ≡ false) (s ∷ ss)
    by true is e rest = absurd (cc)
    by false is e rest = All-cons (λ s. lacks_pair N s ≡ false) s ss is (rest e)

pub waited : (N M : Table) (o : Option ℕ) → unless_lacking N o ≡ Ok M → (o ≡ None) × (N ≡ M)
waited N M None e = (refl, cc)
waited N M (Some x) e = absurd (cc)

read_is_table : (limits : LimitSet) (start : Result Table TableFaultKind) (row : List (List ℕ)) (rows : List (List (List ℕ))) (N : Table)
    → Starts limits row start
    → Ok N ≡ read_from start rows → IsTable N
read_is_table limits (Ok first) row rows N starts e =
    let a = went_on (rows_after 2 (first, kind.Run) rows) waiting N (sym e) in
    let kept = rows_keep rows 2 (first, kind.Run) a.0 (first_keeps limits first row starts) a.1 in
    let w = waited a.0 N (first_lacking a.0 a.0.sources) a.2 in
    subst IsTable w.1 (complete a.0 kept.0 kept.1 (none_lacks a.0 a.0.sources w.0))
read_is_table limits (Err k) row rows N starts e = absurd (cc)

pub what_is_read : (limits : LimitSet) (rows : List (List (List ℕ))) (N : Table) → Reads limits rows (Ok N) → IsTable N
what_is_read limits [] N e = absurd (cc)
what_is_read limits (row ∷ rows) N reads = read_is_table limits reads.0 row rows N reads.1 reads.2
