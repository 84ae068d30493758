-- Reach: its report is the rows of its sheet, and csv reads it back.
use Rattle.std.proofs.Common.{◌≡◌, ℕ, zero, suc, List, refl, arith, slice_index, map}
use Rattle.std.specs.List.{flat_map}
use Rattle.csv.specs.Reading.{strip_bom}
use Rattle.mrp_master_data.specs.Table.{IsTable, Table}
use Rattle.mrp_net.specs.Sums.{pair_at}
use Rattle.mrp_csv_out.specs.Names.{pairs_of}
use Rattle.mrp_csv_out.specs.Rows.{row}
use Rattle.mrp_csv_out.specs.Sheets.{IsPlain}
use Rattle.mrp_csv_out.proofs.FieldFacts.{ArePlain, headed_read, more, none}
use Rattle.mrp_csv_out.proofs.PlainFacts.{item_plain, number_plain, plant_plain}
use Rattle.mrp_csv_out.proofs.ReadBack.{IsRow, all_map, row_each}
use Rattle.mrp_reach.specs.Reach.{releases_whole}
use Rattle.mrp_reach.specs.ReachRows.{last_text, reach_fields, reach_names, reach_row, reach_text}
use Rattle.mrp_reach.specs.ReachSheets.{ReachIsReadBack}

last_plain : (periods : ℕ) → IsPlain (last_text periods)
last_plain zero = refl
last_plain (suc t) = number_plain t

reach_is_row : (N : Table) → IsTable N → (x whole : ℕ) → IsRow (reach_fields N x whole)
unfolding row strip_bom
reach_is_row N is x whole = record {
  plain =
      let are : ArePlain (reach_fields N x whole) =
      more refl (more (plant_plain N is (pair_at N x).plant.0) (more (item_plain N is (pair_at N x).item.0)
      (more (last_plain whole) (more (last_plain (releases_whole N x whole)) none)))) in
      are.all;
  many = omega arith;
  front = λ rest. refl;
}

reach_names_are_row : IsRow reach_names
unfolding row strip_bom
reach_names_are_row = record {
  plain = let are : ArePlain reach_names = more refl (more refl (more refl (more refl (more refl none)))) in are.all;
  many = omega arith;
  front = λ rest. refl;
}

rows_are_sheet : (N : Table) (wholes : List ℕ)
    → flat_map (reach_row N wholes) (pairs_of N) ≡ flat_map row (map (λ x. reach_fields N x (slice_index wholes x)) (pairs_of N))
unfolding reach_row
rows_are_sheet N wholes = row_each (λ x. reach_fields N x (slice_index wholes x)) (pairs_of N)

pub reach_is_read : ReachIsReadBack
unfolding reach_text
reach_is_read N is heading wholes =
    headed_read heading reach_names reach_names_are_row (flat_map (reach_row N wholes) (pairs_of N))
    (map (λ x. reach_fields N x (slice_index wholes x)) (pairs_of N)) (rows_are_sheet N wholes)
    (all_map (λ x. reach_fields N x (slice_index wholes x)) (λ x. reach_is_row N is x (slice_index wholes x)) (pairs_of N))
