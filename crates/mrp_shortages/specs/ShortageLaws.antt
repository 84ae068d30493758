-- Shortages: their laws, and those of their report as a sheet, and what a reader of
-- comma-separated values has to find in it.
use Rattle.std.specs.Prelude.{◌≡◌, ℕ, ◌-◌, ◌≤◌, List, ◌++◌, map, filter, sum_by, slice_index, take, All}
use Rattle.std.specs.List.{flat_map}
use Rattle.mrp_netting.specs.PlanRows.{PlanRows}
use Rattle.mrp_master_data.specs.Table.{Table, IsPair, IsTable}
use Rattle.mrp_commands.specs.declared.choice.Heading.{Heading}
use Rattle.mrp_net.specs.Plan.{rows_at}
use Rattle.mrp_net.specs.PlanLaws.{Fits}
use Rattle.mrp_plan.specs.Peg.{peg_terms}
use Rattle.mrp_csv_out.specs.Names.{item_of, pairs_of, plant_of}
use Rattle.mrp_csv_out.specs.Sheets.{IsReadAs, Sheet, header_sheet}
use Rattle.mrp_shortages.specs.declared.shortage.Shortage.{Shortage}
use Rattle.mrp_shortages.specs.Shortages.{is_short, lacks_of, shortages_of, there}
use Rattle.mrp_shortages.specs.ShortageRows.{shortage_fields, shortage_names, shortage_text}

-- of a pair the missing pieces add up to what its gross requirement in period 0 is above what is there
abbrev pub ShortagesAddUp : Type 0
ShortagesAddUp = (N : Table) → IsTable N → (table : List PlanRows) → Fits N table → (x : ℕ) → IsPair N x
    → sum_by (λ s. s.short) (shortages_of N table x)
    ≡ slice_index (rows_at table x).gross 0 - there N table x

-- what the first k terms lack adds up to what they ask above what is there: the terms before take before those behind
abbrev pub ShortagesAddUpSoFar : Type 0
ShortagesAddUpSoFar = (N : Table) (table : List PlanRows) (x k : ℕ)
    → sum_by (λ s. s.short) (take k (lacks_of (there N table x) (peg_terms N table x 0)))
    ≡ sum_by (λ p. p.quantity) (take k (peg_terms N table x 0)) - there N table x

-- each lacks a piece at least, and no more than its term asks for
abbrev pub ShortagesAreOfTerms : Type 0
ShortagesAreOfTerms = (N : Table) (table : List PlanRows) (x : ℕ)
    → All (λ s. (1 ≤ s.short) × (s.short ≤ s.term.quantity)) (shortages_of N table x)

-- they are what some of the pair's terms lack, each term once and in the order of these
pub record AreOfTermsInOrder (N : Table) (table : List PlanRows) (x : ℕ) : Type 0 where
  pub lacks : List Shortage
  pub terms : map (λ s. s.term) lacks ≡ peg_terms N table x 0
  pub short : filter is_short lacks ≡ shortages_of N table x

abbrev pub ShortagesAreTermsInOrder : Type 0
ShortagesAreTermsInOrder = (N : Table) (table : List PlanRows) (x : ℕ) → AreOfTermsInOrder N table x

-- the shortages of a pair, in the order of its terms
abbrev pub pair_shortages_sheet : Table → List PlanRows → ℕ → Sheet
pair_shortages_sheet N table x = map (shortage_fields N (plant_of N x) (item_of N x)) (shortages_of N table x)

-- those of each pair, in table order, below the names of their columns, where these are asked for
abbrev pub shortage_sheet : Heading → Table → List PlanRows → Sheet
shortage_sheet heading N table = header_sheet heading shortage_names
    ++ flat_map (pair_shortages_sheet N table) (pairs_of N)

-- what csv reads of the report is exactly the fields that its rows are made of
abbrev pub ShortagesAreReadBack : Type 0
ShortagesAreReadBack = (N : Table) → IsTable N → (heading : Heading) (table : List PlanRows)
    → IsReadAs (shortage_text heading N table) (shortage_sheet heading N table)
