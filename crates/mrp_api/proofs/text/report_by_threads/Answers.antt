use Rattle.mrp_api.specs.Answer.{IsAnswer, question_of}
use Rattle.mrp_api.specs.Reports.{IsPlanRows}
use Rattle.mrp_api.proofs.RowFacts.{rows-of}
use Rattle.mrp_api.proofs.TextFacts.{refuses-of, writes-of}
use Rattle.mrp_api.proofs.text.report_by_threads.Goals as goal

pub returns-clause-text : goal.returns-clause-text
returns-clause-text g c =
    writes-of _ _ c.write_report-told.result (IsAnswer c.args.request.choice c.in_ok-network.network) _
    (λ text is. (c.in_ok-network.network, c.in_ok-network.ensures.rows, (c.in_ok-network.ensures.whole, is))) c.write_report-told.ensures.text

pub returns-clause-refusal : goal.returns-clause-refusal
returns-clause-refusal g c =
    refuses-of c.args.request.reading _ (question_of c.args.request.choice) c.in_ok-network.network c.write_report-told.result
    c.in_ok-network.ensures.rows c.in_ok-network.ensures.whole c.write_report-told.ensures.refusal

pub returns-clause-rows : goal.returns-clause-rows
returns-clause-rows g c =
    rows-of g.W.Write.contents _ _ c.write_report-told.result (IsPlanRows c.in_ok-network.network) _
    (λ rows is. (c.in_ok-network.network, c.in_ok-network.ensures.rows, is)) c.write_report-told.ensures.rows
