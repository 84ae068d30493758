use Rattle.std.proofs.Common.{◌≡◌, arith, take}
use Rattle.std.proofs.lemmas.List.{take_all}
use Rattle.mrp_report.specs.Lanes.{lane_text}
use Rattle.mrp_csv_out.proofs.RowFacts.{headed_rows}
use Rattle.mrp_report.proofs.lanes.lane_text.Goals as goal

pub returns-clause-text : goal.returns-clause-text
unfolding lane_text
returns-clause-text c =
    let at_end : take c.figures.figure-index c.args.figures.now ≡ c.args.figures.now = take_all _ _ (omega arith) in
    headed_rows c.text_of.result _ _ _ _ _ c.text_of.ensures.text
    (rw at_end at c.figures.invariant.so_far) c.in_ok-put_names.ensures.names c.in_ok-rows.ensures.empty
