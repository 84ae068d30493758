use Rattle.std.proofs.Common.{◌≡◌, rules, codes, false}
use Rattle.std.proofs.lemmas.Result.{IfOk-weaker}
use Rattle.clap.specs.Words.{app_of, new_app, with_rule}
use Rattle.clap.specs.declared.builder.command.Command.TheViews.{out-Command}
use Rattle.mrp_command_line.specs.CommandLine as rule
use Rattle.mrp_command_line.proofs.Commands.{worded_more}
use Rattle.mrp_command_line.proofs.words.peg_command.Goals as goal

pub returns : goal.returns
returns c =
    let start : app_of c.explained-peg.result ≡ new_app (codes "peg") = search rules in
    let alone : (out-Command c.explained-peg.result).has_globals ≡ false = search rules in
    let one = worded_more (new_app (codes "peg")) rule.plant c.explained-peg.result c.in-Ok.with_plant c.plant_argument.result
    (start, alone) c.plant_argument.ensures c.in-Ok.ensures.shape c.in-Ok.ensures.globals in
    let two = worded_more (with_rule (new_app (codes "peg")) rule.plant) rule.item c.in-Ok.with_plant c.in-Ok-arg.with_item c.item_argument.result one
    c.item_argument.ensures c.in-Ok-arg.ensures.shape c.in-Ok-arg.ensures.globals in
    let three = worded_more (with_rule (with_rule (new_app (codes "peg")) rule.plant) rule.item) rule.period c.in-Ok-arg.with_item c.in-Ok-arg-2.with_period
    c.period_argument.result two c.period_argument.ensures c.in-Ok-arg-2.ensures.shape c.in-Ok-arg-2.ensures.globals in
    IfOk-weaker c.arg-4.result _ _ (λ r h. worded_more (with_rule (with_rule (with_rule (new_app (codes "peg")) rule.plant) rule.item) rule.period) rule.header
    c.in-Ok-arg-2.with_period r c.header_flag.result three c.header_flag.ensures h.shape h.globals) c.arg-4.ensures
