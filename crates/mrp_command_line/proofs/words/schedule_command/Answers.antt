use Rattle.std.proofs.Common.{◌≡◌, rules, codes, false}
use Rattle.std.proofs.lemmas.Result.{IfOk-weaker}
use Rattle.clap.specs.Words.{app_of, new_app, with_rule}
use Rattle.clap.specs.declared.builder.command.Command.TheViews.{out-Command}
use Rattle.mrp_command_line.specs.CommandLine as rule
use Rattle.mrp_command_line.proofs.Commands.{worded_more}
use Rattle.mrp_command_line.proofs.words.schedule_command.Goals as goal

pub returns : goal.returns
returns c =
    let start : app_of c.explained-schedule.result ≡ new_app (codes "schedule") = search rules in
    let alone : (out-Command c.explained-schedule.result).has_globals ≡ false = search rules in
    let one = worded_more (new_app (codes "schedule")) rule.from c.explained-schedule.result c.in-Ok.with_from c.from_option.result
    (start, alone) c.from_option.ensures c.in-Ok.ensures.shape c.in-Ok.ensures.globals in
    let two = worded_more (with_rule (new_app (codes "schedule")) rule.from) rule.to c.in-Ok.with_from c.in-Ok-arg.with_to c.to_option.result one
    c.to_option.ensures c.in-Ok-arg.ensures.shape c.in-Ok-arg.ensures.globals in
    IfOk-weaker c.arg-3.result _ _ (λ r h. worded_more (with_rule (with_rule (new_app (codes "schedule")) rule.from) rule.to) rule.header c.in-Ok-arg.with_to r
    c.header_flag.result two c.header_flag.ensures h.shape h.globals) c.arg-3.ensures
