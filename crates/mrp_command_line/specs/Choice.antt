-- The command line: what its arguments ask, which choice they are, and how the table is to be read.
use Rattle.std.specs.Prelude.{◌≡◌, ℕ, Bool, false, true, List, Option, Some, None, codes}
use Rattle.std.specs.Prelude.{[], map, option_map}
use Rattle.std.specs.Borrow.{Bor}
use Rattle.std.specs.Option.{option_map_or}
use Rattle.std.specs.Str.{bytes_eq}
use Rattle.std.specs.Str.Parse.{digits_value, without_leading_plus}
use Rattle.clap.specs.Words.{HasKind, Row, Text, fault_of, first_of, kind_of, subcommand_of}
use Rattle.clap.specs.declared.error.kind.ErrorKind.TheVariants.{OutOfMemory}
use Rattle.mrp_command_line.specs.CommandLine.{mrp}
use Rattle.mrp_commands.specs.declared.choice.Choice.{Choice}
use Rattle.mrp_commands.specs.declared.choice.Choice.TheVariants.{Plan, Check, Reach, Peg, Cums}
use Rattle.mrp_commands.specs.declared.choice.Choice.TheVariants.{Orders, Schedule, Pegs, Advice, Shortages}
use Rattle.mrp_commands.specs.declared.choice.Heading.{Heading}
use Rattle.mrp_commands.specs.declared.choice.Heading.TheVariants.{Without, Names}
use Rattle.mrp_commands.specs.Range.{IsWithinLimits}
use Rattle.mrp_commands.specs.declared.reading.Reading.{Reading}
use Rattle.mrp_commands.specs.declared.request.Request.{Request}
use Rattle.mrp_command_line.specs.declared.words.ChooseFault.{ChooseFault}
use Rattle.mrp_command_line.specs.declared.words.ChooseFault.TheVariants.{Words, Memory, Period}
use Rattle.mrp_qty.specs.declared.limits.LimitSet.{LimitSet}
use Rattle.mrp_qty.specs.declared.limits.LimitSet.TheVariants.{Usual, Large}

-- the texts of the words
abbrev pub texts_of : List (Bor Text) → List Text
texts_of = map (λ word. word.now)

-- the text of an argument is the first value that clap found for it
abbrev pub text_at : Text → List Row → Option Text
text_at = first_of

-- the number of an argument is what its digits spell
abbrev pub number_value : Text → List Row → Option ℕ
number_value name rows =
    option_map (λ text. digits_value 10 (without_leading_plus text)) (text_at name rows)

-- the text of a word that may be left out
abbrev pub word_text : Option (Bor Text) → Option Text
word_text = option_map (λ word. word.now)

-- a flag is given where its value is `true`
abbrev pub flag_at : Text → List Row → Bool
flag_at name rows = option_map_or (λ text. bytes_eq text (codes "true")) (text_at name rows) false

-- the names of the columns are asked for where the flag is given
abbrev pub has_names : Heading → Bool
has_names Without = false
has_names Names = true

abbrev pub IsHeadedBy : List Row → Heading → Type 0
IsHeadedBy rows heading = flag_at (codes "header") rows ≡ has_names heading

-- the choice that a subcommand and its values are
abbrev pub IsCommand : Text → List Row → Choice → Type 0
IsCommand name rows (Plan workers capacity single) =
    (name ≡ codes "plan") × (number_value (codes "workers") rows ≡ Some workers)
    × (number_value (codes "capacity") rows ≡ Some capacity)
    × (flag_at (codes "single") rows ≡ single)
IsCommand name rows (Check heading) =
    (name ≡ codes "check") × (flag_at (codes "reach") rows ≡ false) × IsHeadedBy rows heading
IsCommand name rows (Reach heading) =
    (name ≡ codes "check") × (flag_at (codes "reach") rows ≡ true) × IsHeadedBy rows heading
IsCommand name rows (Peg plant item period heading) =
    (name ≡ codes "peg") × (text_at (codes "plant") rows ≡ Some plant.now)
    × (text_at (codes "item") rows ≡ Some item.now)
    × (number_value (codes "period") rows ≡ Some period)
    × IsHeadedBy rows heading
IsCommand name rows (Cums heading) = (name ≡ codes "cums") × IsHeadedBy rows heading
IsCommand name rows (Orders until heading) =
    (name ≡ codes "orders") × (number_value (codes "until") rows ≡ until) × IsHeadedBy rows heading
IsCommand name rows (Schedule from to heading) =
    (name ≡ codes "schedule") × (text_at (codes "from") rows ≡ word_text from)
    × (text_at (codes "to") rows ≡ word_text to)
    × IsHeadedBy rows heading
IsCommand name rows (Pegs heading) = (name ≡ codes "pegs") × IsHeadedBy rows heading
IsCommand name rows (Advice until reach heading) =
    (name ≡ codes "advice") × (number_value (codes "until") rows ≡ until)
    × (flag_at (codes "reach") rows ≡ reach)
    × IsHeadedBy rows heading
IsCommand name rows (Shortages heading) = (name ≡ codes "shortages") × IsHeadedBy rows heading

-- the same, where there is a subcommand
abbrev pub IsMeantBy : Option (Text × List Row) → Choice → Type 0
IsMeantBy None choice = ⊥
IsMeantBy (Some command) choice = IsCommand command.0 command.1 choice

-- the choice is the one that clap reads in the words
abbrev pub IsChosenBy : List Text → Choice → Type 0
IsChosenBy words = IsMeantBy (subcommand_of mrp words)

-- the limits are those of any table where the flag is given, and else the usual ones
abbrev pub is_large : LimitSet → Bool
is_large Usual = false
is_large Large = true

abbrev pub HasLimits : List Row → LimitSet → Type 0
HasLimits rows limits = flag_at (codes "large") rows ≡ is_large limits

-- the table has to be whole where the subcommand has the flag for it, and it is read within the limits that the flag for
-- large tables says
abbrev pub ReadsTable : Option (Text × List Row) → Reading → Type 0
ReadsTable None reading = ⊥
ReadsTable (Some command) reading =
    (flag_at (codes "whole") command.1 ≡ reading.whole) × HasLimits command.1 reading.limits

-- the reading is the one that clap reads in the words
abbrev pub IsReadBy : List Text → Reading → Type 0
IsReadBy words = ReadsTable (subcommand_of mrp words)

-- a table within the limits that the words name may have the period that they ask about, if they ask about one
abbrev pub IsAllowedBy : List Text → Choice → Type 0
IsAllowedBy words choice =
    (reading : Reading) × IsReadBy words reading × IsWithinLimits (record { reading = reading; choice = choice })

-- the words ask about a period that no table within the limits that they name has
abbrev pub AskBeyond : List Text → Type 0
AskBeyond words = (request : Request) × IsChosenBy words request.choice × IsReadBy words request.reading
    × ¬ IsWithinLimits request

-- a growth was refused, in clap or here, or the period is beyond the limits
abbrev pub IsMemoryOrPeriod : ChooseFault → Type 0
IsMemoryOrPeriod (Words error) = kind_of error ≡ OutOfMemory
IsMemoryOrPeriod Memory = Unit {0}
IsMemoryOrPeriod Period = Unit {0}

-- clap's refusal has a kind that these words have, or memory was refused, or clap finds no fault in the words, and they
-- ask about a period beyond the limits
abbrev pub IsRefusalOf : List Text → ChooseFault → Type 0
IsRefusalOf words (Words error) = HasKind (fault_of mrp words) error
IsRefusalOf words Memory = Unit {0}
IsRefusalOf words Period = (fault_of mrp words ≡ []) × AskBeyond words
