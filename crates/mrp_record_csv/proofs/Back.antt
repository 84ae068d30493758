-- Records as CSV: what was written reads back.
use Rattle.std.proofs.Common.{◌≡◌, ◌⊎◌, inl, inr, ℕ, List, [], ◌∷◌, ◌++◌, length, map, Result, Ok, Err, refl, sym, ap, ◌∙◌}
use Rattle.std.specs.List.{All}
use Rattle.std.proofs.lemmas.List.Elements.{All-head, All-tail}
use Rattle.mrp_csv_out.specs.Sheets.{sheet_of}
use Rattle.mrp_master_data.specs.Table.{IsTable, Table}
use Rattle.mrp_record.specs.declared.record.Record.{Record}
use Rattle.mrp_record_csv.specs.declared.fault.RecordFault.{RecordFault}
use Rattle.mrp_record_csv.specs.declared.fault.RecordFaultKind.{RecordFaultKind}
use Rattle.mrp_record_csv.specs.declared.fault.RecordFaultKind.TheVariants as fault
use Rattle.mrp_record_csv.specs.Rows.{HasRow, record_fields, records_text}
use Rattle.mrp_record_csv.specs.Grammar.{record_of}
use Rattle.mrp_record_csv.specs.Reading.{AreRowsOf, HasFault, StartsWithFault, StopsAfter}
use Rattle.mrp_record_csv.proofs.Texts.{record_read, written_rows}

-- two records of one row are one
one_record : (N : Table) (r s : Record) → IsTable N → HasRow N r → HasRow N s → record_fields N r ≡ record_fields N s → r ≡ s
one_record N r s is hr hs same =
    let both : ◌≡◌ {A = Result Record RecordFaultKind} (Ok r) (Ok s) = sym (record_read N r is hr) ∙ ap (record_of N) same ∙ record_read N s is hs in
    cc

same_records : (N : Table) (rs ss : List Record) → IsTable N → All (HasRow N) rs → All (HasRow N) ss → map (record_fields N) rs ≡ map (record_fields N) ss
    → rs ≡ ss
same_records N [] [] is hr hs same = refl
same_records N [] (s ∷ ss) is hr hs same = absurd (cc)
same_records N (r ∷ rs) [] is hr hs same = absurd (cc)
same_records N (r ∷ rs) (s ∷ ss) is hr hs same =
    let here : record_fields N r ≡ record_fields N s = cc in
    let rest : map (record_fields N) rs ≡ map (record_fields N) ss = cc in
    let first = one_record N r s is (All-head (HasRow N) r rs hr) (All-head (HasRow N) s ss hs) here in
    let others = same_records N rs ss is (All-tail (HasRow N) r rs hr) (All-tail (HasRow N) s ss hs) rest in
    ap (λ x. x ∷ rs) first ∙ ap (λ xs. s ∷ xs) others

pub reads_back : (most : ℕ) (N : Table) → IsTable N → (written : List Record) → All (HasRow N) written → (read : List Record)
    → AreRowsOf most N (sheet_of (records_text N written)) read → read ≡ written
reads_back most N is written have read are = same_records N read written is are.have_rows have (sym are.rows_are ∙ written_rows N written is have)

-- a row among those of records is one of theirs
row_among : (N : Table) (written : List Record) (front : List (List (List ℕ))) (row : List (List ℕ)) (rest : List (List (List ℕ))) → All (HasRow N) written
    → map (record_fields N) written ≡ front ++ row ∷ rest → (r : Record) × HasRow N r × (row ≡ record_fields N r)
row_among N [] [] row rest have same = absurd (cc)
row_among N [] (x ∷ xs) row rest have same = absurd (cc)
row_among N (r ∷ rs) [] row rest have same = let here : row ≡ record_fields N r = cc in (r, All-head (HasRow N) r rs have, here)
row_among N (r ∷ rs) (x ∷ xs) row rest have same =
    let more : map (record_fields N) rs ≡ xs ++ row ∷ rest = cc in
    row_among N rs xs row rest (All-tail (HasRow N) r rs have) more

no_fault_among : (N : Table) (written : List Record) (front rest : List (List (List ℕ))) (k : RecordFaultKind) → IsTable N → All (HasRow N) written
    → map (record_fields N) written ≡ front ++ rest
    → StartsWithFault N rest k → ⊥
no_fault_among N written front rest k is have same (row, others, at, bad) =
    let found = row_among N written front row others have (same ∙ ap (λ rows. front ++ rows) at) in
    let good : record_of N row ≡ Ok found.0 = ap (record_of N) found.2 ∙ record_read N found.0 is found.1 in
    let both : ◌≡◌ {A = Result Record RecordFaultKind} (Ok found.0) (Err k) = sym good ∙ bad in
    absurd (cc)

fault_is : (most : ℕ) (N : Table) (count : ℕ) (rows : List (List (List ℕ))) (k : RecordFaultKind) → StopsAfter most count N rows k → (StartsWithFault N rows k → ⊥)
    → (k ≡ fault.ReadFault) ⊎ (k ≡ fault.Memory)
fault_is most N count rows fault.ReadFault stops none = inl refl
fault_is most N count rows fault.Memory stops none = inr refl
fault_is most N count rows k stops none = absurd (none stops.1)

pub has_no_fault : (most : ℕ) (N : Table) → IsTable N → (written : List Record) → All (HasRow N) written → (e : RecordFault)
    → HasFault most N (sheet_of (records_text N written)) e
    → (e.kind ≡ fault.ReadFault) ⊎ (e.kind ≡ fault.Memory)
has_no_fault most N is written have e has =
    fault_is most N (length has.before) has.rest e.kind has.stops
    (no_fault_among N written (map (record_fields N) has.before) has.rest e.kind is have (sym (written_rows N written is have) ∙ has.rows_are))
