use Rattle.std.proofs.Common.{◌∙◌, ap, option_map}
use Rattle.std.specs.Str.Parse.{ExplainsUnsignedError, HasUnsignedDigitsIfOk, ParsesUnsigned, digits_value, without_leading_plus}
use Rattle.clap.proofs.WalkLemmas.{one_text-rows}
use Rattle.clap.specs.Words.{found_of}
use Rattle.mrp_command_line.proofs.Numbers.{number_read, some_of}
use Rattle.mrp_command_line.proofs.words.number.Goals as goal

pub unwrap-requires : goal.unwrap-requires
unwrap-requires c =
    let had = c.requires in
    let read = c.get_one.ensures.value had.0 (one_text-rows (found_of c.args.values.now) c.args.name.now ∙ had.1.1) in
    some_of _ _ (number_read _ (λ bs r. ParsesUnsigned 64 10 bs r × ExplainsUnsignedError 10 bs r × HasUnsignedDigitsIfOk bs r) had.0 c.get_one.result read
    (λ u x g. g.0) had.2)

pub returns : goal.returns
returns c =
    let had = c.requires in
    let read = c.get_one.ensures.value had.0 (one_text-rows (found_of c.args.values.now) c.args.name.now ∙ had.1.1) in
    ap (option_map (λ text. digits_value 10 (without_leading_plus text))) had.1.0
    ∙ number_read _ (λ bs r. ParsesUnsigned 64 10 bs r × ExplainsUnsignedError 10 bs r × HasUnsignedDigitsIfOk bs r) had.0 c.get_one.result read
    (λ u x g. g.0) had.2
    ∙ c.unwrap.ensures
