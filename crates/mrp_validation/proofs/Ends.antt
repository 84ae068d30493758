-- The end row of a valid table stands behind all its other rows, and says how many they are.
use Rattle.std.proofs.Common.{◌≡◌, ℕ, ◌+◌, Bool, true, false, if◌then◌else◌, List, [], ◌∷◌, ◌++◌, codes, length, map, Result, Ok, Err, refl, ap, sym}
use Rattle.std.proofs.Common.{◌∙◌, subst, append_assoc, arith}
use Rattle.std.specs.Str.{bytes_eq}
use Rattle.std.proofs.lemmas.Bool.{false≢true}
use Rattle.std.proofs.lemmas.List.{length-append, length-map}
use Rattle.csv.specs.Records.{field_at}
use Rattle.mrp_master_data.specs.declared.rows.PairRow.{PairRow}
use Rattle.mrp_master_data.specs.Growing.{with_end}
use Rattle.mrp_master_data.specs.Table.{Table}
use Rattle.mrp_master_data.specs.Turns.{row_count, rows_above_end}
use Rattle.mrp_validation.specs.declared.fault.TableFaultKind.{TableFaultKind}
use Rattle.mrp_validation.specs.declared.kind.Kind.{Kind}
use Rattle.mrp_validation.specs.declared.kind.Kind.TheVariants as kind
use Rattle.mrp_validation.specs.Asked.{EndsWithItsEnd, TablesEndWithTheirEnd}
use Rattle.mrp_validation.specs.Grammar.{end_in_row, may_follow}
use Rattle.mrp_validation.specs.Reading.{at_row, first_lacking, kind_of_row, Reads, read_from, row_after, row_of_kind, rows_after, waiting}
use Rattle.mrp_validation.specs.Written.{bill_fields, cum_fields, day_fields, demand_fields, end_fields, firm_fields, last_row, pair_rows, plant_fields}
use Rattle.mrp_validation.specs.Written.{policy_fields, receipt_fields, reset_fields, rows_of, run_fields, ship_fields, usage_fields, vendor_fields}
use Rattle.mrp_validation.proofs.Accept.{waited, was_read, went_on}
use Rattle.mrp_validation.proofs.First.{kind_named}
use Rattle.mrp_validation.proofs.KeepingSteps.{after, after_check, same_Ok}
use Rattle.mrp_validation.proofs.WrittenTable.{written_out}
use Rattle.mrp_qty.specs.declared.limits.LimitSet.{LimitSet}

abbrev Row : Type 0
Row = List (List ℕ)

-- ---- the rows above the end

pairs_counted : (N : Table) (x : ℕ) (ps : List PairRow) → length (pair_rows N x ps) ≡ length ps
pairs_counted N x [] = refl
pairs_counted N x (p ∷ ps) = omega (arith, pairs_counted N (x + 1) ps)

-- rows that are others and then the last
record Splits (rows last : List Row) (n : ℕ) : Type 0 where
  above : List Row
  rows_are : rows ≡ above ++ last
  count : length above ≡ n

behind : (front rows last : List Row) (m n : ℕ) → length front ≡ m → Splits rows last n → Splits (front ++ rows) last (m + n)
behind front rows last m n few s = record {
  above = front ++ s.above;
  rows_are = ap (λ (l : List Row). front ++ l) s.rows_are ∙ sym (append_assoc front s.above last);
  count = omega (arith, length-append front s.above, few, s.count);
}

-- rows of a kind
of_kind : {X : Type 0} (f : X → Row) (xs : List X) (rows last : List Row) (n : ℕ) → Splits rows last n → Splits (map f xs ++ rows) last (length xs + n)
of_kind f xs rows last n s = behind (map f xs) rows last (length xs) n (length-map xs f) s

all_above : (N : Table) → Splits (rows_of N) (last_row N) (rows_above_end N)
all_above N =
    let last = last_row N in
    let s0 : Splits last last 0 = record { above = []; rows_are = refl; count = refl } in
    let s = of_kind plant_fields N.plants _ last _ (behind (pair_rows N 0 N.pairs) _ last (length N.pairs) _ (pairs_counted N 0 N.pairs)
    (of_kind (bill_fields N) N.bills _ last _ (of_kind (demand_fields N) N.demands _ last _
    (of_kind (receipt_fields N) N.receipts _ last _ (of_kind (ship_fields N) N.ships _ last _
    (of_kind (cum_fields N) N.cums _ last _ (of_kind (reset_fields N) N.resets _ last _
    (of_kind (firm_fields N) N.firms _ last _ (of_kind (policy_fields N) N.policies _ last _
    (of_kind (usage_fields N) N.usages _ last _ (of_kind (vendor_fields N) N.vendors _ last _
    (of_kind day_fields N.calendar.begun last last 0 s0)))))))))))) in
    record {
      above = run_fields N.calendar ∷ s.above;
      rows_are = ap (λ (l : List Row). run_fields N.calendar ∷ l) s.rows_are;
      count = omega (arith, s.count);
    }

-- as many rows are written of a table as it was read from
pub rows_counted : (N : Table) → length (rows_of N) ≡ row_count N
rows_counted N =
    let s = all_above N in
    ap length s.rows_are ∙ by N.ended s.above s.count
  where
    by : (b : Bool) (above : List Row) → length above ≡ rows_above_end N
        → length (above ++ (if b then end_fields (rows_above_end N) ∷ [] else [])) ≡ rows_above_end N + (if b then 1 else 0)
    by true above few = omega (arith, length-append above (end_fields (rows_above_end N) ∷ []), few)
    by false above few = omega (arith, length-append above [], few)

ends : (N : Table) → N.ended ≡ true → EndsWithItsEnd (rows_of N)
ends N ended =
    let s = all_above N in
    record {
      above = s.above;
      rows_are = s.rows_are ∙ ap (λ (b : Bool). s.above ++ (if b then end_fields (rows_above_end N) ∷ [] else [])) ended
          ∙ ap (λ (n : ℕ). s.above ++ end_fields n ∷ []) (sym s.count);
    }

-- ---- rows whose last is an end row

named_end : (n : ℕ) (k : Kind) → kind_of_row (end_fields n) ≡ Ok k → k ≡ kind.End
unfolding field_at
named_end n k is = let named = kind_named (end_fields n) k is in cc

end_ends : (N M : Table) (row : Row) → row_of_kind kind.End N row ≡ Ok M → M.ended ≡ true
unfolding row_of_kind
end_ends N M row is =
    let a = after (end_in_row N row) (λ rows. Ok (with_end N)) M is in
    sym (ap (λ (m : Table). m.ended) (same_Ok (with_end N) M a.2))

end_after : (s t : Table × Kind) (n : ℕ) → row_after s (end_fields n) ≡ Ok t → t.0.ended ≡ true
unfolding row_after
end_after s t n is =
    let row = end_fields n in
    let a = after (kind_of_row row) _ t is in
    let b = after_check (may_follow a.0 s.1) _ _ t a.2 in
    let c = after (row_of_kind a.0 s.0 row) _ t b.1 in
    let ended = end_ends s.0 c.0 row (subst (λ (k : Kind). row_of_kind k s.0 row ≡ Ok c.0) (named_end n a.0 a.1) c.1) in
    subst (λ (u : Table × Kind). u.0.ended ≡ true) (same_Ok (c.0, a.0) t c.2) ended

rows_end : (above : List Row) (number : ℕ) (s : Table × Kind) (n : ℕ) (M : Table) → rows_after number s (above ++ end_fields n ∷ []) ≡ Ok M → M.ended ≡ true
unfolding rows_after
rows_end [] number s n M e =
    let a = went_on (at_row number (row_after s (end_fields n))) (λ t. rows_after (number + 1) t []) M e in
    let ended = end_after s a.0 n (was_read number (row_after s (end_fields n)) a.0 a.1) in
    subst (λ (m : Table). m.ended ≡ true) (same_Ok a.0.0 M a.2) ended
rows_end (row ∷ above) number s n M e =
    let a = went_on (at_row number (row_after s row)) (λ t. rows_after (number + 1) t (above ++ end_fields n ∷ [])) M e in
    rows_end above (number + 1) a.0 n M a.2

-- the first word of rows
abbrev first_word : List Row → List ℕ
first_word [] = []
first_word ([] ∷ rows) = []
first_word ((word ∷ fields) ∷ rows) = word

no_run : (n : ℕ) (N : Table) → end_fields n ∷ [] ≡ rows_of N → ⊥
no_run n N is = false≢true (sym (ap (λ (rows : List Row). bytes_eq (first_word rows) (codes "end")) is))

reads_end : (limits : LimitSet) (above : List Row) (n : ℕ) (N : Table) → Reads limits (above ++ end_fields n ∷ []) (Ok N) → N.ended ≡ true
reads_end limits [] n N reads = absurd (no_run n N (written_out limits (end_fields n ∷ []) N reads))
reads_end limits (row ∷ above) n N reads = by reads.0 reads.2
  where
    by : (start : Result Table TableFaultKind) → Ok N ≡ read_from start (above ++ end_fields n ∷ []) → N.ended ≡ true
    by (Ok first) e =
        let a = went_on (rows_after 2 (first, kind.Run) (above ++ end_fields n ∷ [])) waiting N (sym e) in
        let w = waited a.0 N (first_lacking a.0 a.0.sources) a.2 in
        subst (λ (m : Table). m.ended ≡ true) w.1 (rows_end above 2 (first, kind.Run) n a.0 a.1)
    by (Err k) e = absurd (cc)

pub end_is_last : (limits : LimitSet) (rows : List Row) (N : Table) → TablesEndWithTheirEnd limits rows N
end_is_last limits rows N reads = (
  λ ended. subst EndsWithItsEnd (sym (written_out limits rows N reads)) (ends N ended),
  λ last. reads_end limits last.above (length last.above) N (subst (λ (r : List Row). Reads limits r (Ok N)) last.rows_are reads),
)
