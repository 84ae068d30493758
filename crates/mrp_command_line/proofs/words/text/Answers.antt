use Rattle.std.proofs.Common.{◌∙◌, sym, ap, option_map}
use Rattle.clap.proofs.WalkLemmas.{first_value-rows}
use Rattle.clap.specs.Words.{found_of}
use Rattle.mrp_command_line.proofs.Numbers.{some_text}
use Rattle.mrp_command_line.proofs.words.text.Goals as goal

pub unwrap-requires : goal.unwrap-requires
unwrap-requires c = some_text c.get_str.result c.requires.0 (c.get_str.ensures ∙ (first_value-rows (found_of c.args.values.now) c.args.name.now ∙ c.requires.1))

pub returns : goal.returns
returns c = sym (first_value-rows (found_of c.args.values.now) c.args.name.now) ∙ (sym c.get_str.ensures ∙ ap (option_map (λ s. s.now)) c.unwrap.ensures)
