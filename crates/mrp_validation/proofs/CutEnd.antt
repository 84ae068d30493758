-- A valid table that ends with its `end` row is no other one cut off: nothing stands behind that row, and a row cut off
-- in it, yet of eight fields, is the whole row.
use Rattle.std.proofs.Common.{◌≡◌, inl, inr, ℕ, ◌+◌, ◌<◌, true, List, [], ◌∷◌, ◌++◌, length, Some, Result, Ok, Err, ap, arith, length-append, refl, sym}
use Rattle.std.proofs.Common.{subst, ◌∙◌}
use Rattle.std.proofs.lemmas.List.{nil_from_length}
use Rattle.csv.specs.Reading.{default_config, records}
use Rattle.csv.specs.Records.{field_at}
use Rattle.mrp_master_data.specs.Table.{Table}
use Rattle.mrp_validation.specs.declared.fault.TableFaultKind.{TableFaultKind}
use Rattle.mrp_validation.specs.declared.kind.Kind.{Kind}
use Rattle.mrp_validation.specs.declared.kind.Kind.TheVariants as kind
use Rattle.mrp_validation.specs.Grammar.{field, is_empty, kind_of, kind_place, may_follow}
use Rattle.mrp_validation.specs.Reading.{at_row, first_lacking, IsReadSoFar, kind_of_row, read_from, Reads, row_after, row_of_kind, rows_after, Starts, waiting}
use Rattle.mrp_validation.proofs.Accept.{waited, was_read, went_on}
use Rattle.mrp_validation.proofs.CutText.{AreRowsCutOff, IsRowCutOff, rows_cut}
use Rattle.mrp_validation.proofs.First.{kind_named}
use Rattle.mrp_validation.proofs.Keeping.{follows_no_end, row_after_keeps}
use Rattle.mrp_validation.proofs.KeepingSteps.{after, after_check, same_Ok}
use Rattle.mrp_validation.proofs.OneWay.{reads_one_way, starts_one_way}
use Rattle.mrp_validation.proofs.Whole.{first_keeps}
use Rattle.mrp_validation.proofs.WrittenFields.{empty, IsOfKind, of_kind}
use Rattle.mrp_qty.specs.declared.limits.LimitSet.{LimitSet}

abbrev Row : Type 0
Row = List (List ℕ)

-- ---- an `end` row cut off

same_kind : (k l : Kind) → Some k ≡ Some l → k ≡ l
same_kind k l e = cc

-- the first field of rows that begin with the same seven, and the field behind those
first_same : (before a b : Row) → length before ≡ 7 → field (before ++ a) 0 ≡ field (before ++ b) 0
unfolding field_at
first_same [] a b seven = absurd (omega arith)
first_same (x ∷ before) a b seven = refl

field_behind : (before : Row) (x : List ℕ) (rest : Row) → field (before ++ x ∷ rest) (length before) ≡ x
unfolding field_at
field_behind [] x rest = refl
field_behind (y ∷ before) x rest = field_behind before x rest

eighth : (before : Row) (x : List ℕ) (rest : Row) → length before ≡ 7 → is_empty (field (before ++ x ∷ rest) 7) ≡ true → x ≡ []
eighth before x rest seven free =
    let there = ap (field (before ++ x ∷ rest)) (sym seven) ∙ field_behind before x rest in
    empty x (subst (λ (text : List ℕ). is_empty text ≡ true) there free)

-- rows of eight fields that begin with the same seven, where the eighth is empty
same_eight : (before : Row) (x y : List ℕ) (rest : Row) → length before ≡ 7 → length (before ++ y ∷ rest) ≡ 8 → is_empty (field (before ++ x ∷ []) 7) ≡ true
    → is_empty (field (before ++ y ∷ rest) 7) ≡ true → before ++ x ∷ [] ≡ before ++ y ∷ rest
same_eight before x y rest seven size free frees =
    let none : rest ≡ [] = nil_from_length rest (omega (arith, length-append before (y ∷ rest))) in
    rw (none, eighth before x [] seven free, eighth before y rest seven frees) refl

end_whole : (row whole : Row) (k : Kind) → IsRowCutOff row whole → kind_of_row row ≡ Ok kind.End → kind_of_row whole ≡ Ok k → row ≡ whole
end_whole row whole k cut is are =
    let before = cut.before in
    let x = cut.field in
    let y = cut.field ++ cut.end in
    let ends = of_kind row kind.End is in
    let seven : length before ≡ 7 = omega (arith, length-append before (x ∷ []), subst (λ (r : Row). length r ≡ 8) cut.row_is ends.size) in
    let first : field row 0 ≡ field whole 0 = rw (cut.row_is, cut.whole_is) (first_same before (x ∷ []) (y ∷ cut.rest) seven) in
    let same = same_kind k kind.End (sym (kind_named whole k are) ∙ ap kind_of (sym first) ∙ kind_named row kind.End is) in
    let all = subst (IsOfKind whole) same (of_kind whole k are) in
    cut.row_is ∙ same_eight before x y cut.rest seven (subst (λ (r : Row). length r ≡ 8) cut.whole_is all.size)
    (subst (λ (r : Row). is_empty (field r 7) ≡ true) cut.row_is ends.free.seven)
    (subst (λ (r : Row). is_empty (field r 7) ≡ true) cut.whole_is all.free.seven) ∙ sym cut.whole_is

-- ---- the rows after the first

-- what is said of a row that is taken
taken : (s t : Table × Kind) (row : Row) → row_after s row ≡ Ok t → (may_follow t.1 s.1 ≡ true) × (kind_of_row row ≡ Ok t.1)
unfolding row_after
taken s t row is =
    let a = after (kind_of_row row) _ t is in
    let b = after_check (may_follow a.0 s.1) _ _ t a.2 in
    let c = after (row_of_kind a.0 s.0 row) _ t b.1 in
    subst (λ (u : Table × Kind). (may_follow u.1 s.1 ≡ true) × (kind_of_row row ≡ Ok u.1)) (same_Ok (c.0, a.0) t c.2) (b.0, a.1)

-- what is said of the first of some rows
record First (number : ℕ) (s : Table × Kind) (row : Row) (rows : List Row) (N : Table) : Type 0 where
  next : Table × Kind
  is : row_after s row ≡ Ok next
  follows : may_follow next.1 s.1 ≡ true
  kind : kind_of_row row ≡ Ok next.1
  rest : rows_after (number + 1) next rows ≡ Ok N

first : (number : ℕ) (s : Table × Kind) (row : Row) (rows : List Row) (N : Table) → rows_after number s (row ∷ rows) ≡ Ok N → First number s row rows N
unfolding rows_after
first number s row rows N e =
    let a = went_on (at_row number (row_after s row)) (λ t. rows_after (number + 1) t rows) N e in
    let is = was_read number (row_after s row) a.0 a.1 in
    let says = taken s a.0 row is in
    record { next = a.0; is = is; follows = says.0; kind = says.1; rest = a.2 }

no_rows : (number : ℕ) (s : Table × Kind) (N : Table) → rows_after number s [] ≡ Ok N → s.0 ≡ N
unfolding rows_after
no_rows number s N e = same_Ok s.0 N e

open_yet : (N : Table) (last : Kind) → IsReadSoFar N last → N.ended ≡ true → kind_place last < kind_place kind.End → ⊥
open_yet N last so_far ended early = let open_still = so_far.ended early in absurd (cc)

-- the last kind of a table that has its end
end_last : (N : Table) (k : Kind) → IsReadSoFar N k → N.ended ≡ true → k ≡ kind.End
end_last N k so_far ended = by k (open_yet N k so_far ended)
  where
    by : (k : Kind) → (kind_place k < kind_place kind.End → ⊥) → k ≡ kind.End
    by kind.Run early = absurd (early (omega arith))
    by kind.Plant early = absurd (early (omega arith))
    by kind.Pair early = absurd (early (omega arith))
    by kind.Bill early = absurd (early (omega arith))
    by kind.Demand early = absurd (early (omega arith))
    by kind.Receipt early = absurd (early (omega arith))
    by kind.Ship early = absurd (early (omega arith))
    by kind.Cum early = absurd (early (omega arith))
    by kind.Reset early = absurd (early (omega arith))
    by kind.Firm early = absurd (early (omega arith))
    by kind.Policy early = absurd (early (omega arith))
    by kind.Usage early = absurd (early (omega arith))
    by kind.Vendor early = absurd (early (omega arith))
    by kind.Day early = absurd (early (omega arith))
    by kind.End early = refl

-- nothing stands behind the end
none_behind : (rows : List Row) (number : ℕ) (s : Table × Kind) (M : Table) → IsReadSoFar s.0 s.1 → s.0.ended ≡ true → rows_after number s rows ≡ Ok M
    → rows ≡ []
none_behind [] number s M so_far ended e = refl
none_behind (row ∷ rows) number s M so_far ended e =
    let f = first number s row rows M e in
    absurd (open_yet s.0 s.1 so_far ended (follows_no_end f.next.1 s.1 f.follows))

both_same : (x y : Row) (xs ys : List Row) → x ≡ y → xs ≡ ys → x ∷ xs ≡ y ∷ ys
both_same x y xs ys e f = cc

-- what stands behind the same row
next_same : (number : ℕ) (s : Table × Kind) (row next : Row) (rows more : List Row) (N M : Table) (f : First number s row rows N) (g : First number s next more M)
    → row ≡ next → rows_after (number + 1) f.next more ≡ Ok M
next_same number s row next rows more N M f g same =
    let one = same_Ok g.next f.next (sym g.is ∙ ap (row_after s) (sym same) ∙ f.is) in
    subst (λ (t : Table × Kind). rows_after (number + 1) t more ≡ Ok M) one g.rest

-- the last row of a table that has its end is whole, and nothing stands behind it
last_whole : (number : ℕ) (s : Table × Kind) (row next : Row) (more : List Row) (N M : Table) → IsRowCutOff row next → IsReadSoFar s.0 s.1
    → First number s row [] N → First number s next more M → N.ended ≡ true → row ∷ [] ≡ next ∷ more
last_whole number s row next more N M cut so_far f g ended =
    let kept = row_after_keeps s f.next row so_far f.is in
    let ended_there = ap (λ (m : Table). m.ended) (no_rows (number + 1) f.next N f.rest) ∙ ended in
    let is = subst (λ (k : Kind). kind_of_row row ≡ Ok k) (end_last f.next.0 f.next.1 kept ended_there) f.kind in
    let same = end_whole row next g.next.1 cut is g.kind in
    let none = none_behind more (number + 1) f.next M kept ended_there (next_same number s row next [] more N M f g same) in
    both_same row next [] more same (sym none)

rows_whole : (rows whole : List Row) (number : ℕ) (s : Table × Kind) (N M : Table) → AreRowsCutOff rows whole → IsReadSoFar s.0 s.1
    → rows_after number s rows ≡ Ok N → rows_after number s whole ≡ Ok M → N.ended ≡ true → rows ≡ whole
unfolding AreRowsCutOff
rows_whole [] whole number s N M cut so_far e f ended =
    sym (none_behind whole number s M so_far (ap (λ (m : Table). m.ended) (no_rows number s N e) ∙ ended) f)
rows_whole (row ∷ rows) [] number s N M cut so_far e f ended = absurd cut
rows_whole (row ∷ rows) (next ∷ more) number s N M (inl same) so_far e f ended =
    let a = first number s row rows N e in
    let behind = next_same number s row next rows more N M a (first number s next more M f) same.0 in
    both_same row next rows more same.0
    (rows_whole rows more (number + 1) a.next N M same.1 (row_after_keeps s a.next row so_far a.is) a.rest behind ended)
rows_whole (row ∷ rows) (next ∷ more) number s N M (inr ends) so_far e f ended =
    let alone = subst (λ (l : List Row). rows_after number s (row ∷ l) ≡ Ok N) ends.0 e in
    ap (λ (l : List Row). row ∷ l) ends.0
    ∙ last_whole number s row next more N M ends.1 so_far (first number s row [] N alone) (first number s next more M f) ended

-- ---- the whole table

-- what is said of rows that are read
record Begun (limits : LimitSet) (row : Row) (rows : List Row) (N : Table) : Type 0 where
  run : Table
  starts : Starts limits row (Ok run)
  rest : rows_after 2 (run, kind.Run) rows ≡ Ok N

begun : (limits : LimitSet) (row : Row) (rows : List Row) (N : Table) → Reads limits (row ∷ rows) (Ok N) → Begun limits row rows N
begun limits row rows N reads = by reads.0 reads.1 (sym reads.2)
  where
    by : (start : Result Table TableFaultKind) → Starts limits row start → read_from start rows ≡ Ok N → Begun limits row rows N
    by (Ok run) starts e =
        let a = went_on (rows_after 2 (run, kind.Run) rows) waiting N e in
        let w = waited a.0 N (first_lacking a.0 a.0.sources) a.2 in
        record { run = run; starts = starts; rest = a.1 ∙ ap (λ (m : Table). Ok m) w.1 }
    by (Err k) starts e = absurd (cc)

-- a run row alone has no end
run_open : (limits : LimitSet) (row : Row) (N : Table) → Begun limits row [] N → N.ended ≡ true → ⊥
run_open limits row N b ended =
    let same = no_rows 2 (b.run, kind.Run) N b.rest in
    open_yet b.run kind.Run (first_keeps limits b.run row b.starts) (ap (λ (m : Table). m.ended) same ∙ ended) (omega arith)

begun_whole : (limits : LimitSet) (row next : Row) (rows more : List Row) (N M : Table) → AreRowsCutOff (row ∷ rows) (next ∷ more) → Begun limits row rows N
    → Begun limits next more M
    → N.ended ≡ true → row ∷ rows ≡ next ∷ more
unfolding AreRowsCutOff
begun_whole limits row next rows more N M (inl same) f g ended =
    let starts = subst (λ (r : Row). Starts limits r (Ok g.run)) (sym same.0) g.starts in
    let one = same_Ok g.run f.run (starts_one_way limits row (Ok g.run) (Ok f.run) starts f.starts) in
    let rest = subst (λ (m : Table). rows_after 2 (m, kind.Run) more ≡ Ok M) one g.rest in
    both_same row next rows more same.0
    (rows_whole rows more 2 (f.run, kind.Run) N M same.1 (first_keeps limits f.run row f.starts) f.rest rest ended)
begun_whole limits row next rows more N M (inr ends) f g ended =
    absurd (run_open limits row N (subst (λ (l : List Row). Begun limits row l N) ends.0 f) ended)

ended_whole : (limits : LimitSet) (rows whole : List Row) (N M : Table) → AreRowsCutOff rows whole → Reads limits rows (Ok N) → Reads limits whole (Ok M)
    → N.ended ≡ true → rows ≡ whole
unfolding AreRowsCutOff
ended_whole limits [] whole N M cut r w ended = absurd (cc)
ended_whole limits (row ∷ rows) [] N M cut r w ended = absurd cut
ended_whole limits (row ∷ rows) (next ∷ more) N M cut r w ended = begun_whole limits row next rows more N M cut (begun limits row rows N r)
    (begun limits next more M w) ended

-- a text whose table ends with its `end` row is no other table's text cut off
pub whole_table : (limits : LimitSet) (text more : List ℕ) (N M : Table) → Reads limits (records default_config text) (Ok N)
    → Reads limits (records default_config (text ++ more)) (Ok M)
    → N.ended ≡ true → N ≡ M
whole_table limits text more N M r w ended =
    let same = ended_whole limits (records default_config text) (records default_config (text ++ more)) N M (rows_cut text more) r w ended in
    same_Ok N M (reads_one_way limits (records default_config text) (Ok N) (Ok M) r (subst (λ (rows : List Row). Reads limits rows (Ok M)) (sym same) w))
