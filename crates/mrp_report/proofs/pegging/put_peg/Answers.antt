use Rattle.std.proofs.Common.{◌≡◌, ◌∙◌, ◌-◌, ◌∷◌, [], drop, length-drop, take, arith}
use Rattle.std.proofs.lemmas.List.{take_all}
use Rattle.std.proofs.lemmas.Result.{on_err_weaker, on_ok_weaker}
use Rattle.mrp_csv_out.specs.Rows.{row}
use Rattle.mrp_report.specs.PegParts.{term_part, term_text}
use Rattle.mrp_report.proofs.GatherFacts.{cut-as, gathers-as, gathers-none}
use Rattle.mrp_report.proofs.PegFacts.{none_asked, pegs_parts_row, row_asked}
use Rattle.mrp_report.proofs.pegging.put_peg.Goals as goal

pub returns-then-term-eq0-clause-rows : goal.returns-then-term-eq0-clause-rows
returns-then-term-eq0-clause-rows g c =
    gathers-as _ _ _ _ _ _ (none_asked c.args.line.now.network.now c.args.line.now.x.0 c.args.t c.args.term c.if-term-eq0.true) (gathers-none _ c.args.room.now)

pub returns-clause-rows : goal.returns-clause-rows
returns-clause-rows g c =
    let N = c.args.line.now.network.now in
    let text = c.write_term-start.new.text in
    let start = c.write_term-start.result in
    let part : take (153 - start) (drop start text) ≡ term_part N c.args.t c.args.term =
    take_all _ _ (omega (arith, length-drop start text)) ∙ c.write_term-start.ensures.part in
    let same : row (c.args.line.now.begins.now ∷ take (153 - start) (drop start text) ∷ []) ≡ term_text N c.args.line.now.x.0 c.args.t c.args.term =
    rw (c.requires.line.part, part) (pegs_parts_row N c.args.line.now.x.0 c.args.t c.args.term
    ∙ row_asked N c.args.line.now.x.0 c.args.t c.args.term c.if-term-eq0.false) in
    on_ok_weaker c.put_row.result (gathers-as _ _ _ _ _ _ same) c.put_row.ensures.row

pub returns-clause-prefix : goal.returns-clause-prefix
returns-clause-prefix g c =
    let N = c.args.line.now.network.now in
    let text = c.write_term-start.new.text in
    let start = c.write_term-start.result in
    let part : take (153 - start) (drop start text) ≡ term_part N c.args.t c.args.term =
    take_all _ _ (omega (arith, length-drop start text)) ∙ c.write_term-start.ensures.part in
    let same : row (c.args.line.now.begins.now ∷ take (153 - start) (drop start text) ∷ []) ≡ term_text N c.args.line.now.x.0 c.args.t c.args.term =
    rw (c.requires.line.part, part) (pegs_parts_row N c.args.line.now.x.0 c.args.t c.args.term
    ∙ row_asked N c.args.line.now.x.0 c.args.t c.args.term c.if-term-eq0.false) in
    on_err_weaker c.put_row.result (cut-as _ _ _ _ _ same) c.put_row.ensures.prefix
