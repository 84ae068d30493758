use Rattle.std.proofs.Common.{◌≡◌, rules, codes, false}
use Rattle.std.proofs.lemmas.Result.{IfOk-weaker}
use Rattle.clap.specs.Words.{app_of, new_app, with_rule}
use Rattle.clap.specs.declared.builder.command.Command.TheViews.{out-Command}
use Rattle.mrp_command_line.specs.CommandLine as rule
use Rattle.mrp_command_line.proofs.Commands.{worded_more}
use Rattle.mrp_command_line.proofs.words.check_command.Goals as goal

pub returns : goal.returns
returns c =
    let start : app_of c.explained-check.result ≡ new_app (codes "check") = search rules in
    let alone : (out-Command c.explained-check.result).has_globals ≡ false = search rules in
    let one = worded_more (new_app (codes "check")) rule.reach c.explained-check.result c.in-Ok.with_reach c.reach_flag.result
    (start, alone) c.reach_flag.ensures c.in-Ok.ensures.shape c.in-Ok.ensures.globals in
    IfOk-weaker c.arg-2.result _ _ (λ r h. worded_more (with_rule (new_app (codes "check")) rule.reach) rule.header c.in-Ok.with_reach r c.header_flag.result
    one c.header_flag.ensures h.shape h.globals) c.arg-2.ensures
