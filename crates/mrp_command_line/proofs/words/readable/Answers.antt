use Rattle.std.proofs.Common.{IfOk, subst}
use Rattle.std.proofs.lemmas.Result.{IfOk-weaker}
use Rattle.clap.specs.Words.{with_rule}
use Rattle.mrp_command_line.specs.CommandLine.{IsWorded}
use Rattle.mrp_command_line.specs.CommandLine as rule
use Rattle.mrp_command_line.proofs.Commands.{worded_more}
use Rattle.mrp_command_line.proofs.words.readable.Goals as goal

pub returns : goal.returns
returns c app worded =
    let begun = subst (λ it. IfOk it (IsWorded app)) c.in-Ok.is worded in
    let one = worded_more app rule.whole c.in-Ok.bare c.in-Ok-arg.with_whole c.whole_flag.result begun c.whole_flag.ensures c.in-Ok-arg.ensures.shape
    c.in-Ok-arg.ensures.globals in
    IfOk-weaker c.arg-2.result _ _ (λ r h. worded_more (with_rule app rule.whole) rule.large c.in-Ok-arg.with_whole r c.large_flag.result one
    c.large_flag.ensures h.shape h.globals) c.arg-2.ensures
