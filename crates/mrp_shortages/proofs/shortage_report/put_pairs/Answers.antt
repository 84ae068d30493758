use Rattle.std.proofs.Common.{◌≡◌, length, arith}
use Rattle.mrp_csv_out.proofs.RowFacts.{rows-more}
use Rattle.mrp_shortages.specs.ShortageRows.{pair_shortages_text, shortages_text}
use Rattle.mrp_shortages.proofs.shortage_report.put_pairs.Goals as goal

pub pairs-preserved : goal.pairs-preserved
pairs-preserved c = record {
  between = c.in_ok-put_pair_shortages.ensures.between;
  so_far = rows-more (pair_shortages_text c.args.network.now c.args.plan.now) _ _ _ c.pairs.x c.pairs.invariant.so_far
      c.in_ok-put_pair_shortages.ensures.rows;
}

pub returns-clause-rows : goal.returns-clause-rows
unfolding shortages_text
returns-clause-rows c =
    let at_end : c.pairs.x ≡ length c.args.network.now.pairs = omega arith in
    rw (← at_end) c.pairs.invariant.so_far
