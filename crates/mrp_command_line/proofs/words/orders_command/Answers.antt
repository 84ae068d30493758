use Rattle.std.proofs.Common.{◌≡◌, rules, codes, false}
use Rattle.std.proofs.lemmas.Result.{IfOk-weaker}
use Rattle.clap.specs.Words.{app_of, new_app, with_rule}
use Rattle.clap.specs.declared.builder.command.Command.TheViews.{out-Command}
use Rattle.mrp_command_line.specs.CommandLine as rule
use Rattle.mrp_command_line.proofs.Commands.{worded_more}
use Rattle.mrp_command_line.proofs.words.orders_command.Goals as goal

pub returns : goal.returns
returns c =
    let start : app_of c.explained-orders.result ≡ new_app (codes "orders") = search rules in
    let alone : (out-Command c.explained-orders.result).has_globals ≡ false = search rules in
    let one = worded_more (new_app (codes "orders")) rule.until c.explained-orders.result c.in-Ok.with_until c.until_option.result
    (start, alone) c.until_option.ensures c.in-Ok.ensures.shape c.in-Ok.ensures.globals in
    IfOk-weaker c.arg-2.result _ _ (λ r h. worded_more (with_rule (new_app (codes "orders")) rule.until) rule.header c.in-Ok.with_until r c.header_flag.result
    one c.header_flag.ensures h.shape h.globals) c.arg-2.ensures
