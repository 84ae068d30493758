-- Records as CSV: the tests of a row, one for each fault that it may have, whatever the others answer; of what isn't
-- there a test says anything, since an earlier one tells that it isn't. The first test of the list that a row fails is
-- the fault that it has.
use Rattle.std.specs.Prelude.{◌≡◌, ℕ, ◌==◌, ◌&&◌, not, Bool, true, false, List, [], ◌∷◌, length, find, Option, Some}
use Rattle.std.specs.Prelude.{None, is_some}
use Rattle.std.specs.Result.{result_err}
use Rattle.std.specs.List.{list_all}
use Rattle.std.specs.Str.{is_utf8}
use Rattle.mrp_master_data.specs.Parsing.{spelled_number}
use Rattle.mrp_master_data.specs.Table.{Table}
use Rattle.mrp_validation.specs.Grammar.{field}
use Rattle.mrp_record_csv.specs.declared.fault.RecordFaultKind.{RecordFaultKind}
use Rattle.mrp_record_csv.specs.declared.fault.RecordFaultKind.TheVariants as fault
use Rattle.mrp_record_csv.specs.declared.kind.Kind.{Kind}
use Rattle.mrp_record_csv.specs.declared.kind.Kind.TheVariants as kind
use Rattle.mrp_record_csv.specs.Grammar.{record_is_empty_from, item_named, record_kind_of}
use Rattle.mrp_record_csv.specs.Grammar.{record_of, record_fields_used}
use Rattle.mrp_record_csv.specs.Laws.{row_faults}

-- the fields that are numbers
abbrev pub number_places : Kind → List ℕ
number_places kind.Line = 1 ∷ 3 ∷ 4 ∷ 5 ∷ []
number_places kind.ItemEnd = 1 ∷ 3 ∷ 4 ∷ []
number_places kind.Reset = 1 ∷ 3 ∷ []
number_places kind.Close = 1 ∷ []

abbrev pub is_number_at : List (List ℕ) → ℕ → Bool
is_number_at row place = is_some (spelled_number (field row place))

-- a closing record has no item
abbrev pub has_item : Kind → Bool
has_item kind.Line = true
has_item kind.ItemEnd = true
has_item kind.Reset = true
has_item kind.Close = false

abbrev pub knows_item : Table → List (List ℕ) → Bool → Bool
knows_item N row true = is_some (item_named N (field row 2))
knows_item N row false = true

-- ---- what is asked of a row of a kind, and of one of none

abbrev pub record_fits_kind : List (List ℕ) → Option Kind → Bool
record_fits_kind row None = true
record_fits_kind row (Some k) = record_is_empty_from row (record_fields_used k)

abbrev pub has_numbers : List (List ℕ) → Option Kind → Bool
has_numbers row None = true
has_numbers row (Some k) = list_all (is_number_at row) (number_places k)

abbrev pub has_known_item : Table → List (List ℕ) → Option Kind → Bool
has_known_item N row None = true
has_known_item N row (Some k) = knows_item N row (has_item k)

-- ---- the tests

abbrev pub record_passes : Table → List (List ℕ) → RecordFaultKind → Bool
record_passes N row fault.NotUtf8 = list_all is_utf8 row
record_passes N row fault.FieldCount = (length row == 6) && record_fits_kind row (record_kind_of (field row 0))
record_passes N row fault.UnknownKind = is_some (record_kind_of (field row 0))
record_passes N row fault.BadNumber = has_numbers row (record_kind_of (field row 0))
record_passes N row fault.UnknownItem = has_known_item N row (record_kind_of (field row 0))
record_passes N row e = true

-- a row is refused for the first fault of the list whose test it fails, and taken where it passes all of them
abbrev pub RowsHaveTheirFirstFault : Type 0
RowsHaveTheirFirstFault = (N : Table) (row : List (List ℕ))
    → result_err (record_of N row) ≡ find (λ e. not (record_passes N row e)) row_faults
