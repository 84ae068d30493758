use Rattle.std.proofs.Common.{arith}
use Rattle.mrp_api.proofs.LineFacts.{piece-fails}
use Rattle.mrp_api.proofs.lines.send_all.Goals as goal

pub returns-in-Err : goal.returns-in-Err
returns-in-Err g c =
    piece-fails (λ piece. piece.now) c.args.pieces.now _ c.pieces.piece-index _ _ _ (omega arith) c.pieces.invariant c.in-Err.ensures.prefix
