-- The report of the plan: which rows it has, and in which order.
use Rattle.std.specs.Prelude.{ℕ, List, [], ◌∷◌, length, slice_index, slice_index_or, decimal, codes as text_bytes}
use Rattle.std.specs.List.{flat_map, range_with_len}
use Rattle.mrp_netting.specs.PlanRows.{PlanRows}
use Rattle.mrp_netting.specs.declared.params.Late.{Late}
use Rattle.mrp_master_data.specs.Table.{Table}
use Rattle.mrp_net.specs.Plan.{rows_at}
use Rattle.mrp_csv_out.specs.Rows.{row}
use Rattle.mrp_csv_out.specs.Dates.{dates_of}
use Rattle.mrp_csv_out.specs.Names.{item_of, pairs_of, plant_of}

-- the row of a pair in a period: its number and first day, gross requirement, scheduled receipts, planned order
-- receipt, planned order release and projected available
abbrev pub plan_fields : List ℕ → List ℕ → List ℕ → PlanRows → ℕ → List (List ℕ)
plan_fields plant item date rows t =
    text_bytes "plan" ∷ plant ∷ item ∷ decimal t ∷ date ∷ decimal (slice_index rows.gross t)
    ∷ decimal (slice_index rows.incoming t)
    ∷ decimal (slice_index rows.order t) ∷ decimal (slice_index rows.release t) ∷ decimal (slice_index rows.available t)
    ∷ []

-- a pair's rows, one for each date, in rising period
unfoldable pub pair_text : List ℕ → List ℕ → List (List ℕ) → PlanRows → List ℕ
pair_text plant item dates rows =
    flat_map (λ t. row (plan_fields plant item (slice_index_or dates t []) rows t)) (range_with_len 0 (length dates))

-- the plan rows of the plan report: the rows of each pair, in table order
unfoldable pub plan_text : Table → List PlanRows → List ℕ
plan_text N table =
    flat_map (λ x. pair_text (plant_of N x) (item_of N x) (dates_of N.calendar) (rows_at table x)) (pairs_of N)

-- the row of a late order: its due period, its quantity and how many periods are missing
abbrev pub late_fields : List ℕ → List ℕ → Late → List (List ℕ)
late_fields plant item late = text_bytes "late" ∷ plant ∷ item ∷ decimal late.period ∷ decimal late.quantity
    ∷ decimal late.by ∷ []

-- the report of late orders: those of each pair, in table order and in rising period
unfoldable pub late_text : Table → List PlanRows → List ℕ
late_text N table = flat_map (λ x. flat_map (λ late. row (late_fields (plant_of N x) (item_of N x) late))
    (rows_at table x).late) (pairs_of N)
