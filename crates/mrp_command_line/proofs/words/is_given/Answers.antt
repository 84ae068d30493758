use Rattle.std.proofs.Common.{◌∙◌}
use Rattle.clap.proofs.WalkLemmas.{one_text-rows}
use Rattle.clap.specs.Words.{found_of}
use Rattle.mrp_command_line.proofs.Numbers.{flag_read}
use Rattle.mrp_command_line.proofs.words.is_given.Goals as goal

pub returns : goal.returns
returns c = flag_read c.requires.0 c.get_flag.result _ _ c.requires.1.0 (one_text-rows (found_of c.args.values.now) c.args.name.now
    ∙ c.requires.1.1) c.get_flag.ensures.value c.get_flag.ensures.other
