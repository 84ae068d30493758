use Rattle.std.proofs.Common.{arith}
use Rattle.mrp_api.specs.Lines.{loop_word}
use Rattle.mrp_api.proofs.LineFacts.{piece-fails}
use Rattle.mrp_api.proofs.lines.send_loop_words.Goals as goal

pub returns-in-Err : goal.returns-in-Err
returns-in-Err g c =
    piece-fails loop_word c.args.pairs.now c.pair-item.result c.pairs.pair-index _ _ _ (omega arith) c.pairs.invariant
    (rw (← c.pair-item.is) c.in-Err.ensures)
