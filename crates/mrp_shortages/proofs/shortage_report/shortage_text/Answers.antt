use Rattle.mrp_csv_out.proofs.RowFacts.{headed_rows}
use Rattle.mrp_shortages.specs.ShortageRows.{shortage_text}
use Rattle.mrp_shortages.proofs.shortage_report.shortage_text.Goals as goal

pub returns-clause-text : goal.returns-clause-text
unfolding shortage_text
returns-clause-text c =
    headed_rows c.text_of.result _ _ _ _ _ c.text_of.ensures.text c.in_ok-put_pairs.ensures.rows c.in_ok-put_names.ensures.names
    c.in_ok-rows.ensures.empty
