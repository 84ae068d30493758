use Rattle.std.proofs.Common.{◌≡◌, length, arith}
use Rattle.std.specs.Prelude.{slice_index}
use Rattle.mrp_report.specs.Codes.{code_row, code_text}
use Rattle.mrp_csv_out.specs.Names.{plant_of, item_of}
use Rattle.mrp_csv_out.proofs.RowFacts.{rows-more, plant_is, item_is, headed_rows}
use Rattle.mrp_report.proofs.codes.code_text.Goals as goal

pub pairs-preserved : goal.pairs-preserved
pairs-preserved c =
    let plant = plant_is c.args.network.now c.pairs.x _ _ c.pair_name.ensures in
    let item = item_is c.args.network.now c.pairs.x _ _ c.pair_name.ensures in
    record {
      between = c.in_ok-put_code.ensures.between;
      so_far = rows-more (λ x. code_row (plant_of c.args.network.now x) (item_of c.args.network.now x) (slice_index c.args.levels.now x))
          _ _ _ c.pairs.x c.pairs.invariant.so_far
          (rw (plant, item, ← c.code.ensures) c.in_ok-put_code.ensures.row);
    }

pub returns-clause-text : goal.returns-clause-text
unfolding code_text
returns-clause-text c =
    let at_end : c.pairs.x ≡ length c.args.network.now.pairs = omega arith in
    headed_rows c.text_of.result _ _ _ _ _ c.text_of.ensures.text
    (rw (← at_end) c.pairs.invariant.so_far) c.in_ok-put_names.ensures.names c.in_ok-rows.ensures.empty
