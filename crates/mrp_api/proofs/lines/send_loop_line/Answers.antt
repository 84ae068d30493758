use Rattle.mrp_api.specs.Lines.{loop_line}
use Rattle.mrp_csv_out.proofs.Fronts.{front-after, front-longer}
use Rattle.mrp_api.proofs.LineFacts.{sends-after}
use Rattle.mrp_api.proofs.lines.send_loop_line.Goals as goal

pub returns-in-Err : goal.returns-in-Err
unfolding loop_line
returns-in-Err g c = front-longer _ _ _ _ c.in-Err.ensures

pub returns-in-Err-send_loop_words : goal.returns-in-Err-send_loop_words
unfolding loop_line
returns-in-Err-send_loop_words g c =
    front-after _ _ _ _ _ c.in_default.ensures (front-longer _ _ _ _ c.in-Err-send_loop_words.ensures)

pub returns : goal.returns
unfolding loop_line
returns g c =
    sends-after _ _ _ _ _ c.send_words-2.result c.in_default.ensures
    (sends-after _ _ _ _ _ c.send_words-2.result c.in_default-send_loop_words.ensures c.send_words-2.ensures)
