use Rattle.mrp_api.specs.Answer.{IsAnswer, question_of}
use Rattle.mrp_c_api.proofs.AnswerFacts.{answers-of}
use Rattle.mrp_c_api.proofs.buffer.answer.Goals as goal

pub returns : goal.returns
returns c =
    answers-of _ c.args.request.reading _ _ (question_of c.args.request.choice) (IsAnswer c.args.request.choice) c.report_text-done.result _ _ _ _
    c.new-report.ensures.items c.report_text-done.ensures.text c.report_text-done.ensures.refusal c.tell.ensures
