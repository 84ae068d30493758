use Rattle.std.proofs.Common.{◌≡◌, arith, take}
use Rattle.std.proofs.lemmas.List.{take_all}
use Rattle.mrp_report.specs.Terms.{peg_text}
use Rattle.mrp_csv_out.proofs.RowFacts.{headed_rows}
use Rattle.mrp_report.proofs.pegs.peg_text.Goals as goal

pub returns-clause-text : goal.returns-clause-text
unfolding peg_text
returns-clause-text c =
    let at_end : take c.terms.term-index c.args.terms.now ≡ c.args.terms.now = take_all _ _ (omega arith) in
    headed_rows c.text_of.result _ _ _ _ _ c.text_of.ensures.text
    (rw at_end at c.terms.invariant.so_far) c.in_ok-put_names.ensures.names c.in_ok-rows.ensures.empty
