use Rattle.std.proofs.Common.{◌∙◌, sym}
use Rattle.clap.proofs.WalkLemmas.{first_value-rows}
use Rattle.clap.specs.Words.{found_of}
use Rattle.mrp_command_line.proofs.words.free_text.Goals as goal

pub returns : goal.returns
returns c = sym (first_value-rows (found_of c.args.values.now) c.args.name.now) ∙ sym c.get_str.ensures
