use Rattle.std.proofs.Common.{◌≡◌, length, arith}
use Rattle.mrp_csv_out.proofs.RowFacts.{rows-more, headed_rows}
use Rattle.mrp_reach.specs.ReachRows.{reach_row, reach_text}
use Rattle.mrp_reach.proofs.reach_report.reach_text.Goals as goal

pub pairs-preserved : goal.pairs-preserved
pairs-preserved c = record {
  between = c.in_ok-put_reach.ensures.between;
  so_far = rows-more (reach_row c.args.network.now c.args.wholes.now) _ _ _ c.pairs.x c.pairs.invariant.so_far c.in_ok-put_reach.ensures.row;
}

pub returns-clause-text : goal.returns-clause-text
unfolding reach_text
returns-clause-text c =
    let at_end : c.pairs.x ≡ length c.args.network.now.pairs = omega arith in
    headed_rows c.text_of.result _ _ _ _ _ c.text_of.ensures.text
    (rw (← at_end) c.pairs.invariant.so_far) c.in_ok-put_names.ensures.names c.in_ok-rows.ensures.empty
