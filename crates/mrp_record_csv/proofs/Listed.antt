-- Records as CSV: each fault that a row may have stands in the list of these.
use Rattle.std.proofs.Common.{◌≡◌, ℕ, ◌==◌, List, length, Result, Ok, Err, IfErr, refl, ◌∙◌, arith}
use Rattle.std.specs.List.{Contains, list_all}
use Rattle.std.specs.Str.{is_utf8}
use Rattle.mrp_master_data.specs.Parsing.{spelled_number}
use Rattle.mrp_master_data.specs.Table.{Table}
use Rattle.mrp_record.specs.declared.record.Record.{Record}
use Rattle.mrp_validation.specs.Grammar.{field}
use Rattle.mrp_validation.proofs.KeepingSteps.{chosen, found, steps, tested}
use Rattle.mrp_record_csv.specs.declared.fault.RecordFaultKind.{RecordFaultKind}
use Rattle.mrp_record_csv.specs.declared.fault.RecordFaultKind.TheVariants as fault
use Rattle.mrp_record_csv.specs.declared.kind.Kind.{Kind}
use Rattle.mrp_record_csv.specs.declared.kind.Kind.TheVariants as kind
use Rattle.mrp_record_csv.specs.Grammar.{spelled_close, spelled_end, record_is_empty_from, item_field, item_named, record_kind_of, spelled_line, number_field}
use Rattle.mrp_record_csv.specs.Grammar.{of_kind, record_of, spelled_reset, record_row_kind, spelled_record, record_fields_used}
use Rattle.mrp_record_csv.specs.Laws.{row_faults}

module _ (P : RecordFaultKind → Type 0) where
  number : (row : List (List ℕ)) (i : ℕ) → P fault.BadNumber → IfErr (number_field row i) P
  number row i n = found P (spelled_number (field row i)) fault.BadNumber n

  item : (N : Table) (row : List (List ℕ)) → P fault.UnknownItem → IfErr (item_field N row) P
  item N row u = found P (item_named N (field row 2)) fault.UnknownItem u

  line-of : (N : Table) (row : List (List ℕ)) → P fault.BadNumber → P fault.UnknownItem → IfErr (spelled_line N row) P
  unfolding spelled_line
  line-of N row n u =
      steps P _ _ (number row 1 n) (λ first. steps P _ _ (number row 3 n)
      (λ period. steps P _ _ (number row 4 n) (λ quantity. steps P _ _ (number row 5 n) (λ cumulative. steps P _ _ (item N row u) (λ item. tt)))))

  end-of : (N : Table) (row : List (List ℕ)) → P fault.BadNumber → P fault.UnknownItem → IfErr (spelled_end N row) P
  unfolding spelled_end
  end-of N row n u = steps P _ _ (number row 1 n) (λ first. steps P _ _ (number row 3 n)
      (λ lines. steps P _ _ (number row 4 n) (λ cumulative. steps P _ _ (item N row u) (λ item. tt))))

  reset-of : (N : Table) (row : List (List ℕ)) → P fault.BadNumber → P fault.UnknownItem → IfErr (spelled_reset N row) P
  unfolding spelled_reset
  reset-of N row n u = steps P _ _ (number row 1 n) (λ first. steps P _ _ (number row 3 n) (λ closed. steps P _ _ (item N row u) (λ item. tt)))

  close-of : (row : List (List ℕ)) → P fault.BadNumber → IfErr (spelled_close row) P
  unfolding spelled_close
  close-of row n = steps P _ _ (number row 1 n) (λ first. tt)

  of-kind : (N : Table) (row : List (List ℕ)) (k : Kind) → P fault.BadNumber → P fault.UnknownItem → IfErr (of_kind N row k) P
  of-kind N row kind.Line n u = line-of N row n u
  of-kind N row kind.ItemEnd n u = end-of N row n u
  of-kind N row kind.Reset n u = reset-of N row n u
  of-kind N row kind.Close n u = close-of row n

  row-kind : (row : List (List ℕ)) → P fault.FieldCount → P fault.UnknownKind → IfErr (record_row_kind row) P
  unfolding record_row_kind
  row-kind row c k = steps P _ _ (tested P (length row == 6) _ c)
      (λ six. steps P _ _ (found P (record_kind_of (field row 0)) _ k) (λ x. chosen P (record_is_empty_from row (record_fields_used x)) x fault.FieldCount c))

  spelled-record : (N : Table) (row : List (List ℕ)) → P fault.FieldCount → P fault.UnknownKind → P fault.BadNumber → P fault.UnknownItem
      → IfErr (spelled_record N row) P
  unfolding spelled_record
  spelled-record N row c k n u = steps P _ _ (row-kind row c k) (λ x. of-kind N row x n u)

  record-of : (N : Table) (row : List (List ℕ)) → P fault.NotUtf8 → P fault.FieldCount → P fault.UnknownKind → P fault.BadNumber → P fault.UnknownItem
      → IfErr (record_of N row) P
  unfolding record_of
  record-of N row t c k n u = steps P _ _ (tested P (list_all is_utf8 row) _ t) (λ text. spelled-record N row c k n u)

-- the list
pub listed : (N : Table) (row : List (List ℕ)) → IfErr (record_of N row) (Contains row_faults)
listed N row = record-of (Contains row_faults) N row (0, omega arith, refl) (1, omega arith, refl) (2, omega arith, refl) (3, omega arith, refl)
    (4, omega arith, refl)

-- a row whose fields are text is never refused for a failed read
abbrev IsNoReadFault : RecordFaultKind → Type 0
IsNoReadFault k = k ≡ fault.ReadFault → ⊥

spelled_own : (N : Table) (row : List (List ℕ)) → IfErr (spelled_record N row) IsNoReadFault
spelled_own N row = spelled-record IsNoReadFault N row (λ e. cc) (λ e. cc) (λ e. cc) (λ e. cc)

pub no_read_fault : (N : Table) (row : List (List ℕ)) (k : RecordFaultKind) → spelled_record N row ≡ Err k → k ≡ fault.ReadFault → ⊥
no_read_fault N row k e is = by (spelled_record N row) (spelled_own N row) e
  where
    by : (r : Result Record RecordFaultKind) → IfErr r IsNoReadFault → r ≡ Err k → ⊥
    by (Ok x) h e = cc
    by (Err f) h e = let same : f ≡ k = cc in h (same ∙ is)
