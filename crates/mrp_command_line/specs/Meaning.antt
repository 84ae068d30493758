-- The command line: what the kind of an error of it means for the program.
use Rattle.clap.specs.declared.error.kind.ErrorKind.{ErrorKind as WordsFault}
use Rattle.clap.specs.declared.error.kind.ErrorKind.TheVariants as words
use Rattle.mrp_command_line.specs.declared.meaning.Meaning.{Meaning}
use Rattle.mrp_command_line.specs.declared.meaning.Meaning.TheVariants as means

-- want of memory; help or the version; and else words that are refused
abbrev pub meaning_of : WordsFault → Meaning
meaning_of words.OutOfMemory = means.Memory
meaning_of words.DisplayHelp = means.Asked
meaning_of words.DisplayVersion = means.Asked
meaning_of _ = means.Refused
