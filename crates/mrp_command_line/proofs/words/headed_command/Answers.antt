use Rattle.std.proofs.lemmas.Result.{IfOk-weaker}
use Rattle.clap.specs.Words.{new_app}
use Rattle.mrp_command_line.specs.CommandLine as rule
use Rattle.mrp_command_line.proofs.Commands.{worded_more}
use Rattle.mrp_command_line.proofs.words.headed_command.Goals as goal

pub returns : goal.returns
returns c = IfOk-weaker c.arg.result _ _ (λ r h. worded_more (new_app c.args.name.now) rule.header c.explained-headed.result r c.header_flag.result
    c.explained-headed.ensures c.header_flag.ensures h.shape h.globals) c.arg.ensures
