-- Records as CSV: the fault of a row that is read is the first test of the list that it fails.
use Rattle.std.proofs.Common.{◌≡◌, ℕ, ◌==◌, ◌&&◌, not, Bool, true, false, cond, List, length, Option, Some, None, is_some, Ok, Err, ok_or, if◌then◌else◌, refl}
use Rattle.std.specs.Result.{result_err}
use Rattle.std.specs.List.{list_all}
use Rattle.std.specs.Str.{is_utf8}
use Rattle.mrp_master_data.specs.Parsing.{spelled_number}
use Rattle.mrp_master_data.specs.declared.numbers.ItemNo.{ItemNo}
use Rattle.mrp_master_data.specs.Table.{Table}
use Rattle.mrp_record.specs.declared.record.Record.{Record}
use Rattle.mrp_record.specs.declared.record.Record.TheVariants.{Line, ItemEnd, Reset, Close}
use Rattle.mrp_validation.specs.Grammar.{◌>>=◌, check, field}
use Rattle.mrp_record_csv.specs.declared.fault.RecordFaultKind.{RecordFaultKind}
use Rattle.mrp_record_csv.specs.declared.fault.RecordFaultKind.TheVariants as fault
use Rattle.mrp_record_csv.specs.declared.kind.Kind.{Kind}
use Rattle.mrp_record_csv.specs.declared.kind.Kind.TheVariants as kind
use Rattle.mrp_record_csv.specs.Grammar.{spelled_close, spelled_end, record_is_empty_from, item_named, record_kind_of, spelled_line, of_kind, record_of}
use Rattle.mrp_record_csv.specs.Grammar.{spelled_reset, record_row_kind, spelled_record, record_fields_used}
use Rattle.mrp_record_csv.specs.Tests.{RowsHaveTheirFirstFault, record_fits_kind, has_known_item, has_numbers}

-- ---- what a kind asks of its numbers and its item

abbrev Asks : Table → List (List ℕ) → Option Kind → Option RecordFaultKind
Asks N row k = cond (not (has_numbers row k)) (Some fault.BadNumber) (cond (not (has_known_item N row k)) (Some fault.UnknownItem) None)

line-first : (N : Table) (row : List (List ℕ)) → result_err (spelled_line N row) ≡ Asks N row (Some kind.Line)
unfolding spelled_line
line-first N row = by (spelled_number (field row 1)) (spelled_number (field row 3)) (spelled_number (field row 4)) (spelled_number (field row 5))
    (item_named N (field row 2))
  where
    by : (n p q c : Option ℕ) (i : Option ItemNo)
        → result_err {T = Record} (ok_or n fault.BadNumber >>= λ number. ok_or p fault.BadNumber >>= λ period. ok_or q fault.BadNumber >>= λ quantity. ok_or
        c fault.BadNumber >>= λ cumulative.
        ok_or i fault.UnknownItem >>= λ item. Ok (Line number item period quantity cumulative))
        ≡ cond (not (is_some n && (is_some p && (is_some q && (is_some c && true))))) (Some fault.BadNumber)
        (cond (not (is_some i)) (Some fault.UnknownItem) None)
    by None p q c i = refl
    by (Some n) None q c i = refl
    by (Some n) (Some p) None c i = refl
    by (Some n) (Some p) (Some q) None i = refl
    by (Some n) (Some p) (Some q) (Some c) None = refl
    by (Some n) (Some p) (Some q) (Some c) (Some i) = refl

end-first : (N : Table) (row : List (List ℕ)) → result_err (spelled_end N row) ≡ Asks N row (Some kind.ItemEnd)
unfolding spelled_end
end-first N row = by (spelled_number (field row 1)) (spelled_number (field row 3)) (spelled_number (field row 4)) (item_named N (field row 2))
  where
    by : (n l c : Option ℕ) (i : Option ItemNo)
        → result_err {T = Record} (ok_or n fault.BadNumber >>= λ number. ok_or l fault.BadNumber >>= λ lines. ok_or c fault.BadNumber >>= λ cumulative.
        ok_or i fault.UnknownItem >>= λ item.
        Ok (ItemEnd number item lines cumulative))
        ≡ cond (not (is_some n && (is_some l && (is_some c && true)))) (Some fault.BadNumber) (cond (not (is_some i)) (Some fault.UnknownItem) None)
    by None l c i = refl
    by (Some n) None c i = refl
    by (Some n) (Some l) None i = refl
    by (Some n) (Some l) (Some c) None = refl
    by (Some n) (Some l) (Some c) (Some i) = refl

reset-first : (N : Table) (row : List (List ℕ)) → result_err (spelled_reset N row) ≡ Asks N row (Some kind.Reset)
unfolding spelled_reset
reset-first N row = by (spelled_number (field row 1)) (spelled_number (field row 3)) (item_named N (field row 2))
  where
    by : (n f : Option ℕ) (i : Option ItemNo)
        → result_err {T = Record} (ok_or n fault.BadNumber >>= λ number. ok_or f fault.BadNumber >>= λ closed. ok_or i fault.UnknownItem >>= λ item. Ok
        (Reset number item closed))
        ≡ cond (not (is_some n && (is_some f && true))) (Some fault.BadNumber) (cond (not (is_some i)) (Some fault.UnknownItem) None)
    by None f i = refl
    by (Some n) None i = refl
    by (Some n) (Some f) None = refl
    by (Some n) (Some f) (Some i) = refl

close-first : (N : Table) (row : List (List ℕ)) → result_err (spelled_close row) ≡ Asks N row (Some kind.Close)
unfolding spelled_close
close-first N row = by (spelled_number (field row 1))
  where
    by : (n : Option ℕ) → result_err {T = Record} (ok_or n fault.BadNumber >>= λ number. Ok (Close number))
        ≡ cond (not (is_some n && true)) (Some fault.BadNumber) None
    by None = refl
    by (Some n) = refl

kind-first : (N : Table) (row : List (List ℕ)) (k : Kind) → result_err (of_kind N row k) ≡ Asks N row (Some k)
kind-first N row kind.Line = line-first N row
kind-first N row kind.ItemEnd = end-first N row
kind-first N row kind.Reset = reset-first N row
kind-first N row kind.Close = close-first N row

-- ---- a row

first : (N : Table) (row : List (List ℕ)) → result_err (record_of N row)
    ≡ cond (not (list_all is_utf8 row)) (Some fault.NotUtf8) (cond (not ((length row == 6) && record_fits_kind row (record_kind_of (field row 0))))
    (Some fault.FieldCount)
    (cond (not (is_some (record_kind_of (field row 0)))) (Some fault.UnknownKind) (Asks N row (record_kind_of (field row 0)))))
unfolding record_of spelled_record record_row_kind
first N row = by (list_all is_utf8 row) (length row == 6) (record_kind_of (field row 0))
  where
    free : (k : Kind) (b : Bool) → result_err {T = Record} ((if b then Ok k else Err fault.FieldCount) >>= of_kind N row)
        ≡ cond (not b) (Some fault.FieldCount) (Asks N row (Some k))
    free k true = kind-first N row k
    free k false = refl

    by : (a b : Bool) (o : Option Kind)
        → result_err {T = Record} (check a fault.NotUtf8 >>= λ u.
        (check b fault.FieldCount >>= λ u. ok_or o fault.UnknownKind >>= λ k. if record_is_empty_from row (record_fields_used k) then Ok k
        else Err fault.FieldCount) >>= of_kind N row)
        ≡ cond (not a) (Some fault.NotUtf8) (cond (not (b && record_fits_kind row o)) (Some fault.FieldCount)
        (cond (not (is_some o)) (Some fault.UnknownKind) (Asks N row o)))
    by false b o = refl
    by true false o = refl
    by true true None = refl
    by true true (Some k) = free k (record_is_empty_from row (record_fields_used k))

pub rows_have_their_first_fault : RowsHaveTheirFirstFault
rows_have_their_first_fault N row = first N row
