use Rattle.std.proofs.Common.{◌≡◌, ◌++◌}
use Rattle.std.specs.List.{flat_map, range_with_len}
use Rattle.mrp_master_data.specs.Table.{horizon}
use Rattle.mrp_csv_out.specs.Writing.{IsBetweenRows, written}
use Rattle.mrp_advice.specs.AdviceRows.{pair_advice_text}
use Rattle.mrp_advice.specs.Beyond.{wholes_of}
use Rattle.mrp_advice.specs.Lacking.{HaveRoom}
use Rattle.mrp_advice.proofs.advice_report.put_pairs.Given as goal

-- the rows of the pairs before x are there
abbrev pub invariant-pairs : goal.invariant-pairs
invariant-pairs l = record {
  between : IsBetweenRows l.rows;
  room : HaveRoom (horizon l.report.network.now) l.lacks;
  so_far : written l.rows ≡ written l.initial.rows ++ flat_map (pair_advice_text (wholes_of l.report.wholes) l.report.until l.report.network.now l.report.plan.now) (range_with_len 0 l.x);
}
