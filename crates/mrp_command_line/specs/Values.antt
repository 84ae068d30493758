-- The command line: what the values of a command have, where clap takes it.
use Rattle.std.specs.Prelude.{◌≡◌, ◌⊎◌, ◌<◌, ◌≤◌, ◌^◌, ℕ, Bool, List, Option, Some, None, IfSome, codes}
use Rattle.std.specs.Str.Parse.{IsNumeral, digits_value, without_leading_plus}
use Rattle.clap.specs.Words.{Row, Text, one_of}
use Rattle.clap.specs.Values.{bool_text}
use Rattle.mrp_command_line.specs.Choice.{number_value, text_at}
use Rattle.mrp_commands.specs.declared.choice.TheConstants.{MOST_WORKERS, MOST_CAPACITY, LAST_PERIOD}

-- the argument has a value, which is read as it was written
abbrev pub HasText : Text → Text → List Row → Type 0
HasText name text rows = (text_at name rows ≡ Some text) × (one_of name rows ≡ Some text)

-- the value spells a number of 64 bits
abbrev pub IsNumber : Text → Type 0
IsNumber text = IsNumeral 10 (without_leading_plus text)
    × (digits_value 10 (without_leading_plus text) < 2 ^ 64)

abbrev pub HasNumber : Text → List Row → Type 0
HasNumber name rows = (text : Text) × HasText name text rows × IsNumber text

-- the argument has a number, or no value
abbrev pub MayHaveNumber : Text → List Row → Type 0
MayHaveNumber name rows = HasNumber name rows ⊎ ((text_at name rows ≡ None) × (one_of name rows ≡ None))

abbrev pub HasFlag : Text → List Row → Type 0
HasFlag name rows = (given : Bool) × HasText name (bool_text given) rows

abbrev pub HasNameValue : Text → List Row → Type 0
HasNameValue name rows = (text : Text) × (text_at name rows ≡ Some text)

-- the number, if there is one, lies between the two
abbrev pub MayBeWithin : ℕ → ℕ → Option ℕ → Type 0
MayBeWithin least most None = Unit {0}
MayBeWithin least most (Some n) = (least ≤ n) × (n ≤ most)

-- the number lies between the two
abbrev pub LiesWithin : ℕ → ℕ → Option ℕ → Type 0
LiesWithin least most number = IfSome number (λ n. (least ≤ n) × (n ≤ most))

pub record HasPlanValues (rows : List Row) : Type 0 where
  pub workers : HasNumber (codes "workers") rows
  pub workers_within : LiesWithin 1 MOST_WORKERS (number_value (codes "workers") rows)
  pub capacity : HasNumber (codes "capacity") rows
  pub capacity_within : LiesWithin 1 MOST_CAPACITY (number_value (codes "capacity") rows)
  pub single : HasFlag (codes "single") rows

pub record HasCheckValues (rows : List Row) : Type 0 where
  pub reach : HasFlag (codes "reach") rows
  pub header : HasFlag (codes "header") rows

pub record HasPegValues (rows : List Row) : Type 0 where
  pub plant : HasNameValue (codes "plant") rows
  pub item : HasNameValue (codes "item") rows
  pub period : HasNumber (codes "period") rows
  pub period_within : LiesWithin 0 LAST_PERIOD (number_value (codes "period") rows)
  pub header : HasFlag (codes "header") rows

-- of planned orders, and of open ones
pub record HasOrderValues (rows : List Row) : Type 0 where
  pub until : MayHaveNumber (codes "until") rows
  pub until_within : MayBeWithin 0 LAST_PERIOD (number_value (codes "until") rows)
  pub header : HasFlag (codes "header") rows

pub record HasAdviceValues (rows : List Row) : Type 0 where
  pub order : HasOrderValues rows
  pub reach : HasFlag (codes "reach") rows

-- the command is a report on the whole plan, with its values
abbrev pub IsWholeReport : Text → List Row → Type 0
IsWholeReport name rows = ((name ≡ codes "orders") × HasOrderValues rows)
    ⊎ (((name ≡ codes "schedule") × HasFlag (codes "header") rows)
    ⊎ (((name ≡ codes "pegs") × HasFlag (codes "header") rows)
    ⊎ (((name ≡ codes "advice") × HasAdviceValues rows)
    ⊎ ((name ≡ codes "shortages") × HasFlag (codes "header") rows))))

-- the command is one of the nine, with its values
abbrev pub HasCommandValues : Text → List Row → Type 0
HasCommandValues name rows = ((name ≡ codes "plan") × HasPlanValues rows)
    ⊎ (((name ≡ codes "check") × HasCheckValues rows)
    ⊎ (((name ≡ codes "peg") × HasPegValues rows)
    ⊎ (((name ≡ codes "cums") × HasFlag (codes "header") rows) ⊎ IsWholeReport name rows)))

-- the same, and it says how the table is to be read
abbrev pub IsWholeCommand : Option (Text × List Row) → Type 0
IsWholeCommand None = ⊥
IsWholeCommand (Some command) = HasCommandValues command.0 command.1 × HasFlag (codes "whole") command.1
    × HasFlag (codes "large") command.1
