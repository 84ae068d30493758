use Rattle.std.proofs.Common.{◌-◌, arith}
use Rattle.std.proofs.lemmas.Result.{err_from_is_err_and}
use Rattle.mrp_report.proofs.PieceFacts.{pieces_all, pieces_cut, pieces_more, pieces_none}
use Rattle.mrp_report.proofs.plan.send_pieces.Goals as goal

pub pieces-init : goal.pieces-init
pieces-init g c = record {
  within = omega arith;
  room = c.requires.room;
  sent = pieces_none c.args.report.now.network.now c.args.report.now.plan.now _;
}

pub pieces-preserved : goal.pieces-preserved
pieces-preserved g c = record {
  within = omega (arith);
  room = omega (arith, c.pieces.invariant.room, c.in_ok-send_piece.ensures.room);
  sent = pieces_more c.args.report.now.network.now c.args.report.now.plan.now _ _ _ c.pieces.sent (c.min-end.result - c.pieces.sent) c.min-end.result
      (omega arith) c.pieces.invariant.sent c.in_ok-send_piece.ensures.whole;
}

pub returns-clause-text : goal.returns-clause-text
returns-clause-text g c =
    pieces_all c.args.report.now.network.now c.args.report.now.plan.now _ _ c.pieces.sent (omega arith) c.pieces.invariant.sent

pub returns-in_err-send_piece-clause-text : goal.returns-in_err-send_piece-clause-text
returns-in_err-send_piece-clause-text g c =
    let p = err_from_is_err_and c.from_residual.result c.from_residual.ensures.1 in
    rw (p.1, p.2, c.in_err-send_piece.ensures.fault)
    (pieces_cut c.args.report.now.network.now c.args.report.now.plan.now _ _ _ c.pieces.sent (c.min-end.result - c.pieces.sent)
    (omega arith) c.pieces.invariant.sent c.in_err-send_piece.ensures.prefix)
