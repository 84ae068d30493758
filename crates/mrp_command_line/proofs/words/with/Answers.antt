use Rattle.std.proofs.Common.{◌≡◌, IfOk, subst}
use Rattle.std.proofs.lemmas.Result.{IfOk-weaker}
use Rattle.clap.specs.Words.{app_of, with_rule}
use Rattle.mrp_command_line.specs.CommandLine as rule
use Rattle.mrp_command_line.proofs.Commands.{one_more}
use Rattle.mrp_command_line.proofs.words.with.Goals as goal

pub returns : goal.returns
returns c app sub started worded =
    let begun = subst (λ it. IfOk it (λ old. app_of old ≡ app)) c.in-Ok.is started in
    let more = c.in-Ok-readable.ensures sub worded in
    IfOk-weaker c.subcommand.result _ _ (λ r h. one_more app (with_rule (with_rule sub rule.whole) rule.large) c.in-Ok.old r c.in-Ok-readable.more begun more
    h.shape)
    c.subcommand.ensures
