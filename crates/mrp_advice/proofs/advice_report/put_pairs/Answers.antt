use Rattle.std.proofs.Common.{◌≡◌, length, arith}
use Rattle.mrp_csv_out.proofs.RowFacts.{rows-more}
use Rattle.mrp_advice.specs.AdviceRows.{messages_text, pair_advice_text}
use Rattle.mrp_advice.specs.Beyond.{wholes_of}
use Rattle.mrp_advice.proofs.advice_report.put_pairs.Goals as goal

pub pairs-preserved : goal.pairs-preserved
pairs-preserved c = record {
  between = c.in_ok-put_pair_messages.ensures.between;
  room = c.put_pair_messages.ensures.room;
  so_far = rows-more (pair_advice_text (wholes_of c.args.report.now.wholes) c.args.report.now.until c.args.report.now.network.now
      c.args.report.now.plan.now) _ _ _ c.pairs.x c.pairs.invariant.so_far c.in_ok-put_pair_messages.ensures.rows;
}

pub returns-clause-rows : goal.returns-clause-rows
unfolding messages_text
returns-clause-rows c =
    let at_end : c.pairs.x ≡ length c.args.report.now.network.now.pairs = omega arith in
    rw (← at_end) c.pairs.invariant.so_far
