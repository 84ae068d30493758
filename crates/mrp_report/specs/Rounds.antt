-- The report of the plan by rounds: pieces of it that are written side by side.
use Rattle.std.specs.Prelude.{◌≡◌, ℕ, ◌+◌, ◌-◌, ◌*◌, ◌≤◌, min, List, length}
use Rattle.mrp_netting.specs.PlanRows.{PlanRows}
use Rattle.mrp_master_data.specs.Table.{IsTable, Table}
use Rattle.mrp_net.specs.PlanLaws.{Fits}
use Rattle.mrp_csv_out.specs.Dates.{dates_of}
use Rattle.mrp_report.specs.declared.rounds.TheConstants.{ROWS_AT_ONCE}
use Rattle.mrp_report.specs.Parts.{pairs_text}

-- the rows of piece k of a round, so many pairs to a piece; the round begins with pair first. Where no pairs are left,
-- these are none
unfoldable pub piece_text : Table → List PlanRows → ℕ → ℕ → ℕ → List ℕ
piece_text N table first size k = pairs_text N table (first + k * size) (min size (length N.pairs - (first + k * size)))

-- what a round is of: a plan that fits, the dates of its periods, and no more pairs to a piece than it has place for
pub record IsRound (N : Table) (plans : List PlanRows) (days : List (List ℕ)) (first size : ℕ) : Type 0 where
  pub table : IsTable N
  pub fits : Fits N plans
  pub dates : days ≡ dates_of N.calendar
  pub within : first ≤ length N.pairs
  pub few : size ≤ ROWS_AT_ONCE
  pub rows : size * length days ≤ ROWS_AT_ONCE
