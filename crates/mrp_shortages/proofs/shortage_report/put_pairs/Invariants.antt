use Rattle.std.proofs.Common.{◌≡◌, ◌++◌}
use Rattle.std.specs.List.{flat_map, range_with_len}
use Rattle.mrp_csv_out.specs.Writing.{IsBetweenRows, written}
use Rattle.mrp_shortages.specs.ShortageRows.{pair_shortages_text}
use Rattle.mrp_shortages.proofs.shortage_report.put_pairs.Given as goal

-- the rows of the pairs before this one are written
abbrev pub invariant-pairs : goal.invariant-pairs
invariant-pairs l = record {
  between : IsBetweenRows l.rows;
  so_far : written l.rows ≡ written l.initial.rows ++ flat_map (pair_shortages_text l.network l.plan) (range_with_len 0 l.x);
}
