use Rattle.std.proofs.Common.{◌∙◌, ap, arith}
use Rattle.mrp_tables.specs.Keys.{word_of}
use Rattle.mrp_tables.proofs.Words.{short_key_is}
use Rattle.mrp_tables.proofs.name_key.NameKey.of.Goals as goal

pub returns-else-bytes-gt-IN_WORD : goal.returns-else-bytes-gt-IN_WORD
returns-else-bytes-gt-IN_WORD c =
    let bytes = c.as_bytes-bytes.ensures in
    short_key_is c.args.text.now c.word_of.result (omega (arith, bytes.len, c.if-bytes-gt-IN_WORD.false)) (c.word_of.ensures ∙ ap word_of bytes.value)
