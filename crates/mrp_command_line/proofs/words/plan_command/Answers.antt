use Rattle.std.proofs.Common.{◌≡◌, rules, codes, false}
use Rattle.std.proofs.lemmas.Result.{IfOk-weaker}
use Rattle.clap.specs.Words.{app_of, new_app, with_rule}
use Rattle.clap.specs.declared.builder.command.Command.TheViews.{out-Command}
use Rattle.mrp_command_line.specs.CommandLine as rule
use Rattle.mrp_command_line.proofs.Commands.{worded_more}
use Rattle.mrp_command_line.proofs.words.plan_command.Goals as goal

pub returns : goal.returns
returns c =
    let start : app_of c.explained-plan.result ≡ new_app (codes "plan") = search rules in
    let alone : (out-Command c.explained-plan.result).has_globals ≡ false = search rules in
    let one = worded_more (new_app (codes "plan")) rule.workers c.explained-plan.result c.in-Ok.with_workers c.workers_option.result
    (start, alone) c.workers_option.ensures c.in-Ok.ensures.shape c.in-Ok.ensures.globals in
    let two = worded_more (with_rule (new_app (codes "plan")) rule.workers) rule.capacity c.in-Ok.with_workers c.in-Ok-arg.with_both c.capacity_option.result
    one c.capacity_option.ensures c.in-Ok-arg.ensures.shape c.in-Ok-arg.ensures.globals in
    IfOk-weaker c.arg-3.result _ _ (λ r h. worded_more (with_rule (with_rule (new_app (codes "plan")) rule.workers) rule.capacity) rule.single
    c.in-Ok-arg.with_both r c.single_flag.result two c.single_flag.ensures h.shape h.globals) c.arg-3.ensures
