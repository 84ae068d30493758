use Rattle.mrp_advice.specs.Lacking.{lacks_of, run_out_of}
use Rattle.mrp_advice.specs.Needed.{may_come_sooner}
use Rattle.mrp_advice.proofs.LineFacts.{advice_is, sort_periods}
use Rattle.mrp_advice.proofs.advice_report.put_next.Goals as goal

pub put_message-requires-clause-advice : goal.put_message-requires-clause-advice
put_message-requires-clause-advice c =
    let N = c.args.line.now.network.now in
    let s = may_come_sooner c.args.policy c.args.order in
    advice_is N c.args.line.now.whole c.args.order (lacks_of c.args.lacks.now s) (run_out_of c.args.run_outs.now s).pieces c.next_advice-advice.result
    (sort_periods N c.args.lacks.now s c.requires.room) c.requires.order c.next_advice-advice.ensures.advice
