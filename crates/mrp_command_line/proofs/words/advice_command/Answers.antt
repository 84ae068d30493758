use Rattle.std.proofs.Common.{◌≡◌, rules, codes, false}
use Rattle.std.proofs.lemmas.Result.{IfOk-weaker}
use Rattle.clap.specs.Words.{app_of, new_app, with_rule}
use Rattle.clap.specs.declared.builder.command.Command.TheViews.{out-Command}
use Rattle.mrp_command_line.specs.CommandLine as rule
use Rattle.mrp_command_line.proofs.Commands.{worded_more}
use Rattle.mrp_command_line.proofs.words.advice_command.Goals as goal

pub returns : goal.returns
returns c =
    let start : app_of c.explained-advice.result ≡ new_app (codes "advice") = search rules in
    let alone : (out-Command c.explained-advice.result).has_globals ≡ false = search rules in
    let one = worded_more (new_app (codes "advice")) rule.until c.explained-advice.result c.in-Ok.with_until c.until_option.result
    (start, alone) c.until_option.ensures c.in-Ok.ensures.shape c.in-Ok.ensures.globals in
    let two = worded_more (with_rule (new_app (codes "advice")) rule.until) rule.reach c.in-Ok.with_until c.in-Ok-arg.with_reach c.reach_flag.result one
    c.reach_flag.ensures c.in-Ok-arg.ensures.shape c.in-Ok-arg.ensures.globals in
    IfOk-weaker c.arg-3.result _ _ (λ r h. worded_more (with_rule (with_rule (new_app (codes "advice")) rule.until) rule.reach) rule.header
    c.in-Ok-arg.with_reach r c.header_flag.result two c.header_flag.ensures h.shape h.globals) c.arg-3.ensures
