use Rattle.std.proofs.Common.{IfErr, subst, sym}
use Rattle.mrp_loops.specs.Codes.{AreCodes}
use Rattle.mrp_loops.specs.Sized.{IsSized}
use Rattle.mrp_master_data.specs.Table.{Table}
use Rattle.mrp_api.specs.Answer.{IsAnswer, question_of}
use Rattle.mrp_api.specs.Refusals.{RefusesTable}
use Rattle.mrp_api.specs.Reports.{IsPlanRows, WritesRows}
use Rattle.mrp_api.specs.Text.{Writes}
use Rattle.mrp_api.proofs.writing.write_report.Goals as goal

-- the sized network is the one that was given

pub report-requires-clause-plannable : goal.report-requires-clause-plannable
report-requires-clause-plannable g c = subst (λ (N : Table). IsSized N) (sym c.in_ok-sized.ensures.network) c.in_ok-sized.ensures.plannable

pub report-requires-clause-codes : goal.report-requires-clause-codes
report-requires-clause-codes g c =
    subst (λ (N : Table). AreCodes N c.in_ok-levels.levels) (sym c.in_ok-sized.ensures.network) c.in_ok-levels.ensures.codes.0

pub returns-clause-text : goal.returns-clause-text
returns-clause-text g c =
    subst (λ (N : Table). Writes (g.W.Write.contents c.args.writer.now) (g.W.Write.contents c.report.new.writer) c.report.result (IsAnswer c.args.choice N))
    c.in_ok-sized.ensures.network c.report.ensures.text

pub returns-clause-rows : goal.returns-clause-rows
returns-clause-rows g c =
    subst (λ (N : Table). WritesRows g.W.Write.contents c.args.writer.now c.report.new.writer c.report.result (IsPlanRows N))
    c.in_ok-sized.ensures.network c.report.ensures.rows

pub returns-clause-refusal : goal.returns-clause-refusal
returns-clause-refusal g c =
    subst (λ (N : Table). IfErr c.report.result (RefusesTable (question_of c.args.choice) N)) c.in_ok-sized.ensures.network c.report.ensures.refusal
