use Rattle.std.proofs.Common.{◌-◌, ◌*◌, min, length, refl, ap, ◌∙◌, arith}
use Rattle.std.proofs.lemmas.Result.{err_from_is_err_and}
use Rattle.mrp_report.proofs.PieceFacts.{pieces_all, pieces_none}
use Rattle.mrp_report.proofs.RoundFacts.{round_cut, round_more}
use Rattle.mrp_report.proofs.rounds.send_rounds.Goals as goal

pub rounds-init : goal.rounds-init
rounds-init g c = record {
  within = omega arith;
  count = refl;
  sent = pieces_none c.args.report.now.network.now c.args.report.now.plan.now _;
}

pub rounds-preserved : goal.rounds-preserved
rounds-preserved g c =
    let N = c.args.report.now.network.now in
    let same = ap (λ n. n * c.args.size) c.write_round.ensures.count in
    record {
      within = omega arith;
      count = c.write_round.ensures.count ∙ c.rounds.invariant.count;
      sent = round_more N c.args.report.now.plan.now _ _ _ c.rounds.sent (min (length N.pairs - c.rounds.sent) (length c.rounds.pieces * c.args.size)) _ _
          (omega (arith, same))
          c.write_round.ensures.text c.rounds.invariant.sent c.in_ok-send_round.ensures.whole;
    }

pub returns-clause-text : goal.returns-clause-text
returns-clause-text g c =
    pieces_all c.args.report.now.network.now c.args.report.now.plan.now _ _ c.rounds.sent (omega arith) c.rounds.invariant.sent

pub returns-in_err-send_round-clause-text : goal.returns-in_err-send_round-clause-text
returns-in_err-send_round-clause-text g c =
    let N = c.args.report.now.network.now in
    let p = err_from_is_err_and c.from_residual.result c.from_residual.ensures.1 in
    rw (p.1, p.2, c.in_err-send_round.ensures.fault)
    (round_cut N c.args.report.now.plan.now _ _ _ c.rounds.sent (min (length N.pairs - c.rounds.sent) (length c.rounds.pieces * c.args.size)) _ (omega arith)
    c.write_round.ensures.text c.rounds.invariant.sent c.in_err-send_round.ensures.prefix)
