-- Shortages: the rows of one pair's, term by term.
use Rattle.std.specs.Prelude.{◌≡◌, ℕ, if◌then◌else◌, List, [], filter}
use Rattle.std.specs.List.{flat_map}
use Rattle.mrp_netting.specs.PlanRows.{PlanRows}
use Rattle.mrp_master_data.specs.Table.{Table}
use Rattle.mrp_plan.specs.declared.terms.PegTerm.{PegTerm}
use Rattle.mrp_csv_out.specs.Names.{item_of, plant_of}
use Rattle.mrp_shortages.specs.declared.shortage.Shortage.{Shortage}
use Rattle.mrp_shortages.specs.declared.shortage_report.ShortageLine.{ShortageLine}
use Rattle.mrp_shortages.specs.Shortages.{is_short, lack_of, lacks_of}
use Rattle.mrp_shortages.specs.ShortageRows.{shortage_row}

-- what the rows of a pair's shortages have in common
pub record IsShortageLine (N : Table) (table : List PlanRows) (x : ℕ) (line : ShortageLine) : Type 0 where
  pub network : line.network.now ≡ N
  pub plan : line.plan.now ≡ table
  pub plant : line.plant.now ≡ plant_of N x
  pub item : line.item.now ≡ item_of N x

-- the row of a shortage
abbrev pub line_row : ShortageLine → Shortage → List ℕ
line_row line shortage = shortage_row line.network.now line.plant.now line.item.now shortage

-- that of a term, where it lacks pieces of those that are left
abbrev pub line_text : ShortageLine → ℕ → PegTerm → List ℕ
line_text line left term = if is_short (lack_of left term) then line_row line (lack_of left term) else []

-- those of terms that take one after the other
abbrev pub lacks_text : ShortageLine → ℕ → List PegTerm → List ℕ
lacks_text line left terms = flat_map (line_row line) (filter is_short (lacks_of left terms))
