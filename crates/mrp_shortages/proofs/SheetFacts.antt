-- Shortages: their report is the rows of its sheet, and csv reads it back.
use Rattle.std.proofs.Common.{◌≡◌, ℕ, List, All, refl, arith}
use Rattle.std.specs.List.{flat_map}
use Rattle.csv.specs.Reading.{strip_bom}
use Rattle.mrp_netting.specs.PlanRows.{PlanRows}
use Rattle.mrp_master_data.specs.Table.{IsTable, Table}
use Rattle.mrp_net.specs.Sums.{pair_at}
use Rattle.mrp_plan.specs.declared.terms.PegSource.{PegSource}
use Rattle.mrp_plan.specs.declared.terms.PegSource.TheVariants.{Demand, Bill, Plant}
use Rattle.mrp_csv_out.specs.Names.{item_of, pairs_of, plant_of}
use Rattle.mrp_csv_out.specs.Rows.{row}
use Rattle.mrp_csv_out.specs.Sheets.{IsPlain}
use Rattle.mrp_csv_out.proofs.FieldFacts.{ArePlain, headed_read, more, none, number}
use Rattle.mrp_csv_out.proofs.PlainFacts.{item_plain, plant_plain}
use Rattle.mrp_csv_out.proofs.ReadBack.{IsRow, all_each, all_map, row_each, rows_each}
use Rattle.mrp_shortages.specs.declared.shortage.Shortage.{Shortage}
use Rattle.mrp_shortages.specs.Shortages.{shortages_of}
use Rattle.mrp_shortages.specs.ShortageLaws.{ShortagesAreReadBack, pair_shortages_sheet}
use Rattle.mrp_shortages.specs.ShortageRows.{pair_shortages_text, shortage_fields, shortage_names, shortage_row, shortage_text, shortages_text}
use Rattle.mrp_shortages.specs.ShortageRows.{source_word}

source_plain : (source : PegSource) → IsPlain (source_word source)
source_plain Demand = refl
source_plain Bill = refl
source_plain Plant = refl

shortage_is_row : (N : Table) → IsTable N → (plant item : List ℕ) (shortage : Shortage) → IsPlain plant → IsPlain item
    → IsRow (shortage_fields N plant item shortage)
unfolding row strip_bom
shortage_is_row N is plant item shortage p i = record {
  plain =
      let by = (pair_at N shortage.term.pair.0) in
      let are : ArePlain (shortage_fields N plant item shortage) =
      more refl (more p (more i (more (source_plain shortage.term.source) (more (plant_plain N is by.plant.0) (more (item_plain N is by.item.0)
      (number shortage.term.quantity (number shortage.short none))))))) in
      are.all;
  many = omega arith;
  front = λ rest. refl;
}

shortage_names_are_row : IsRow shortage_names
unfolding row strip_bom
shortage_names_are_row = record {
  plain =
      let are : ArePlain shortage_names =
      more refl (more refl (more refl (more refl (more refl (more refl (more refl (more refl none))))))) in
      are.all;
  many = omega arith;
  front = λ rest. refl;
}

shortages_are_sheet : (N : Table) (table : List PlanRows)
    → shortages_text N table ≡ flat_map row (flat_map (pair_shortages_sheet N table) (pairs_of N))
unfolding shortages_text pair_shortages_text shortage_row
shortages_are_sheet N table =
    rows_each (pair_shortages_text N table) (pair_shortages_sheet N table)
    (λ x. row_each (shortage_fields N (plant_of N x) (item_of N x)) (shortages_of N table x)) (pairs_of N)

rows_are : (N : Table) → IsTable N → (table : List PlanRows) → All IsRow (flat_map (pair_shortages_sheet N table) (pairs_of N))
rows_are N is table =
    all_each (pair_shortages_sheet N table)
    (λ x. all_map (shortage_fields N (plant_of N x) (item_of N x))
    (λ shortage. shortage_is_row N is (plant_of N x) (item_of N x) shortage (plant_plain N is (pair_at N x).plant.0)
    (item_plain N is (pair_at N x).item.0))
    (shortages_of N table x))
    (pairs_of N)

pub shortages_are_read : ShortagesAreReadBack
unfolding shortage_text
shortages_are_read N is heading table =
    headed_read heading shortage_names shortage_names_are_row (shortages_text N table) (flat_map (pair_shortages_sheet N table) (pairs_of N))
    (shortages_are_sheet N table) (rows_are N is table)
