-- The report of the plan: how it is made, its rows by two parts, each one text, and by pieces of some pairs.
use Rattle.std.specs.Prelude.{ℕ, ◌<◌, List, [], ◌∷◌, length, slice_index, decimal, codes as text_bytes}
use Rattle.std.specs.List.{flat_map, range_with_len}
use Rattle.mrp_netting.specs.PlanRows.{PlanRows}
use Rattle.mrp_netting.specs.declared.params.Late.{Late}
use Rattle.mrp_master_data.specs.Table.{Table}
use Rattle.mrp_net.specs.Plan.{rows_at}
use Rattle.mrp_csv_out.specs.DateLists.{date_in}
use Rattle.mrp_csv_out.specs.Dates.{dates_of}
use Rattle.mrp_csv_out.specs.Names.{item_of, plant_of}
use Rattle.mrp_csv_out.specs.Rows.{row}
use Rattle.mrp_csv_out.specs.Writing.{joined}
use Rattle.mrp_report.specs.declared.plan.Period.{Period}
use Rattle.mrp_report.specs.Report.{late_fields, pair_text}

-- what a plan has for one period: gross requirement, incoming receipts, planned order receipt,
-- planned order release and projected available
abbrev pub period_at : PlanRows → ℕ → Period
period_at rows t =
    record {
      number = t;
      gross = slice_index rows.gross t;
      incoming = slice_index rows.incoming t;
      order = slice_index rows.order t;
      release = slice_index rows.release t;
      available = slice_index rows.available t;
    }

-- what all rows of a pair begin with: the word, its plant and its item
abbrev pub pair_part : List ℕ → List ℕ → List ℕ
pair_part plant item = joined (text_bytes "plan" ∷ plant ∷ item ∷ [])

-- what a row has of its period: the number, the date and the figures
abbrev pub period_part : List ℕ → Period → List ℕ
period_part date period =
    joined (decimal period.number ∷ date ∷ decimal period.gross ∷ decimal period.incoming
    ∷ decimal period.order ∷ decimal period.release ∷ decimal period.available ∷ [])

-- a row of these parts
unfoldable pub parts_row : List ℕ → List ℕ → Period → List ℕ
parts_row pair date period = row (pair ∷ period_part date period ∷ [])

-- the rows of a pair, one for each date, in rising period
unfoldable pub parts_text : List ℕ → List (List ℕ) → PlanRows → List ℕ
parts_text pair dates rows =
    flat_map (λ t. parts_row pair (date_in dates t) (period_at rows t)) (range_with_len 0 (length dates))

-- the rows of so many pairs from one on, in table order
unfoldable pub pairs_text : Table → List PlanRows → ℕ → ℕ → List ℕ
pairs_text N table first count =
    flat_map (λ x. pair_text (plant_of N x) (item_of N x) (dates_of N.calendar) (rows_at table x))
    (range_with_len first count)

-- the row of a late order
unfoldable pub late_row : List ℕ → List ℕ → Late → List ℕ
late_row plant item late = row (late_fields plant item late)

-- the rows of a plan have the period
pub record HasPeriod (rows : PlanRows) (t : ℕ) : Type 0 where
  pub gross : t < length rows.gross
  pub incoming : t < length rows.incoming
  pub order : t < length rows.order
  pub release : t < length rows.release
  pub available : t < length rows.available

-- the rows of a plan have so many periods
abbrev pub HasPeriods : PlanRows → ℕ → Type 0
HasPeriods rows count = (t : ℕ) → t < count → HasPeriod rows t
