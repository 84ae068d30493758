-- The network: firm planned orders of one of its pairs, and what they add up to. Orders that are equal all count.
use Rattle.std.specs.Prelude.{ℕ, ◌==◌, if◌then◌else◌, List, sum_by}
use Rattle.mrp_grouping.specs.Groups.{group}
use Rattle.mrp_master_data.specs.declared.rows.FirmRow.{FirmRow}
use Rattle.mrp_master_data.specs.Table.{Table}

-- the firm planned orders of a pair, in table order
abbrev pub firms_of : Table → ℕ → List FirmRow
firms_of N x = group (λ f. f.pair.0) x N.firms

-- the pieces of orders that are released in a period, and the pieces that are due in it
abbrev pub starting_in : List FirmRow → ℕ → ℕ
starting_in orders t = sum_by (λ f. if f.start == t then f.quantity else 0) orders

abbrev pub due_in : List FirmRow → ℕ → ℕ
due_in orders t = sum_by (λ f. if f.due == t then f.quantity else 0) orders

-- the same of a pair, and all its firm planned orders together
abbrev pub firm_start : Table → ℕ → ℕ → ℕ
firm_start N x t = starting_in (firms_of N x) t

abbrev pub firm_due : Table → ℕ → ℕ → ℕ
firm_due N x t = due_in (firms_of N x) t

abbrev pub firm_total : Table → ℕ → ℕ
firm_total N x = sum_by (λ f. if f.pair.0 == x then f.quantity else 0) N.firms

-- rows of so many periods, or of none, for the pieces of firm planned orders by release and by due period
pub record FirmPieces : Type 0 where
  pub periods : ℕ
  pub start : List ℕ
  pub due : List ℕ
