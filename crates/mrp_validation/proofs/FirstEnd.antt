-- The test of validation that an end row fails is the fault that it has.
use Rattle.std.proofs.Common.{◌≡◌, ℕ, cond, not, List, Option, Some, None, is_some, ok_or, refl}
use Rattle.std.specs.Result.{result_err}
use Rattle.mrp_master_data.specs.Parsing.{number_within}
use Rattle.mrp_master_data.specs.Table.{Table}
use Rattle.mrp_master_data.specs.Turns.{row_count}
use Rattle.mrp_validation.specs.declared.fault.TableFaultKind.TheVariants as fault
use Rattle.mrp_validation.specs.declared.kind.Kind.TheVariants as kind
use Rattle.mrp_validation.specs.Faults.{faults_of_kind}
use Rattle.mrp_validation.specs.Grammar.{end_in_row, field}
use Rattle.mrp_validation.specs.Tests.{end_passes, first_failed}

pub end-first : (N : Table) (row : List (List ℕ)) → result_err (end_in_row N row) ≡ first_failed (end_passes N row) (faults_of_kind kind.End)
unfolding end_in_row
end-first N row = by (number_within (field row 1) (row_count N) (row_count N))
  where
    by : (o : Option ℕ) → result_err (ok_or o fault.BadNumber) ≡ cond (not (is_some o)) (Some fault.BadNumber) None
    by None = refl
    by (Some rows) = refl
