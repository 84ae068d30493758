use Rattle.std.proofs.Common.{arith, ap, subst}
use Rattle.std.specs.List.{concat}
use Rattle.std.specs.Io.KnownBytes.{Appends}
use Rattle.std.proofs.lemmas.List.{take_all}
use Rattle.std.proofs.lemmas.Result.{err_from_is_err_and}
use Rattle.csv.proofs.WriteFacts.{appends-none}
use Rattle.mrp_report.proofs.RoundFacts.{sent_cut, sent_more}
use Rattle.mrp_report.proofs.rounds.send_round.Goals as goal

pub pieces-init : goal.pieces-init
pieces-init g c = appends-none _

pub pieces-preserved : goal.pieces-preserved
pieces-preserved g c = sent_more _ _ _ c.args.pieces.now c.pieces.piece-index c.piece-item.result c.piece-item.result c.pieces-test.true c.piece-item.is
    c.pieces.invariant c.in_ok-send.ensures.whole

pub returns-in_err-send-clause-prefix : goal.returns-in_err-send-clause-prefix
returns-in_err-send-clause-prefix g c =
    let p = err_from_is_err_and c.from_residual.result c.from_residual.ensures.1 in
    rw p.1 (sent_cut _ _ _ c.args.pieces.now c.pieces.piece-index c.piece-item.result c.piece-item.result c.pieces-test.true c.piece-item.is c.pieces.invariant
    c.in_err-send.ensures.prefix)

pub returns-clause-whole : goal.returns-clause-whole
returns-clause-whole g c =
    subst (λ t. Appends (g.W.Write.contents c.args.out.now) (g.W.Write.contents c.pieces.out) t)
    (ap concat (take_all c.pieces.piece-index c.args.pieces.now (omega (arith, c.pieces-test.false)))) c.pieces.invariant
