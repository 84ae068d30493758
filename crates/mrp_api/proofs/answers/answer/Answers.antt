use Rattle.std.proofs.Common.{◌≡◌, false, IfErr, rules, subst, sym}
use Rattle.mrp_commands.specs.declared.choice.Choice.{Choice}
use Rattle.mrp_api.specs.Answer.{IsAnswer}
use Rattle.mrp_api.specs.Refusals.{Question, RefusesAs}
use Rattle.mrp_api.specs.Text.{OfTableWithin, Suits, Writes}
use Rattle.mrp_api.proofs.GateFacts.{asks_threads, open_gate}
use Rattle.mrp_api.proofs.answers.answer.Goals as goal

pub returns-in-Some-clause-text : goal.returns-in-Some-clause-text
returns-in-Some-clause-text g c =
    subst (λ (choice : Choice). Writes (g.W.Write.contents c.args.writer.now) (g.W.Write.contents c.plan_as.new.writer) c.plan_as.result
    (λ text. OfTableWithin c.args.request.reading.limits (g.R.Read.remaining c.args.reader) (λ N. Suits c.args.request.reading N × IsAnswer choice N text)))
    (sym c.in-Plan-default-default-false.is) c.plan_as.ensures.text

pub returns-in-Some-clause-refusal : goal.returns-in-Some-clause-refusal
returns-in-Some-clause-refusal g c =
    let off : c.in-Plan-default-default-false.single ≡ false = search rules in
    rw (c.in-Plan-default-default-false.is)
    (subst (λ (asked : Question). IfErr c.plan_as.result (RefusesAs c.args.request.reading (g.R.Read.remaining c.args.reader) asked))
    (sym (asks_threads c.in-Plan-default-default-false.workers c.in-Plan-default-default-false.capacity c.in-Plan-default-default-false.single off))
    c.plan_as.ensures.refusal)

pub returns-in-Some-clause-gate : goal.returns-in-Some-clause-gate
returns-in-Some-clause-gate g c = open_gate _ _ _ _ _ c.plan_as.result c.plan_as.ensures.gate

pub returns-in-Some-clause-rows : goal.returns-in-Some-clause-rows
returns-in-Some-clause-rows g c = c.plan_as.ensures.rows
