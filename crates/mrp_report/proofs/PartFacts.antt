-- The report of the plan: its rows by their parts.
use Rattle.std.proofs.Common.{◌≡◌, ℕ, List, length, refl, append_assoc}
use Rattle.std.specs.List.{flat_map, range_with_len}
use Rattle.mrp_netting.specs.PlanRows.{PlanRows}
use Rattle.mrp_csv_out.specs.Rows.{row}
use Rattle.mrp_report.specs.Parts.{pair_part, parts_row, parts_text, period_at}
use Rattle.mrp_csv_out.specs.DateLists.{date_in}
use Rattle.mrp_report.specs.Report.{pair_text, plan_fields}

-- the row of the parts is the row of the fields
parts_row_is : (plant item date : List ℕ) (rows : PlanRows) (t : ℕ)
    → parts_row (pair_part plant item) date (period_at rows t) ≡ row (plan_fields plant item date rows t)
unfolding parts_row row
parts_row_is plant item date rows t = simp append_assoc refl

-- the rows of the parts are the rows of the fields
pub parts_text_is : (plant item : List ℕ) (dates : List (List ℕ)) (rows : PlanRows)
    → parts_text (pair_part plant item) dates rows ≡ pair_text plant item dates rows
unfolding parts_text pair_text
parts_text_is plant item dates rows =
    λ i. flat_map (λ t. parts_row_is plant item (date_in dates t) rows t i) (range_with_len 0 (length dates))
