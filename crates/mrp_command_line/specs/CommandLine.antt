-- The command line as a whole, as clap reads it.
use Rattle.std.specs.Prelude.{◌≡◌, ℕ, Some, true, false, [], ◌∷◌, codes}
use Rattle.clap.specs.Words.{App, Rule, Text, app_of, new_app, new_rule, rule_of, with_rule, with_subcommand}
use Rattle.clap.specs.declared.builder.action.ArgAction.TheVariants.{SetTrue}
use Rattle.clap.specs.declared.builder.arg.Arg.{Arg}
use Rattle.clap.specs.declared.builder.command.Command.{Command}
use Rattle.clap.specs.declared.builder.command.Command.TheViews.{out-Command}
use Rattle.clap.specs.declared.builder.value_parser.ValueParser.TheVariants.{Unsigned}
use Rattle.mrp_commands.specs.declared.choice.TheConstants.{MOST_WORKERS, MOST_CAPACITY, LAST_PERIOD}

-- a positional argument that has to be there
abbrev pub wanted : Text → Rule
wanted name = record (new_rule name) { value_names = 1; required = true }

-- the same, of a number from `least` to `most`
abbrev pub wanted_number : Text → ℕ → ℕ → Rule
wanted_number name least most = record (wanted name) { parser = Some (Unsigned least most) }

-- an option with a number from `least` to `most`, and the number where the option is left out
abbrev pub number_option : Text → ℕ → ℕ → Text → Rule
number_option name least most otherwise = record (new_rule name) {
  long = Some name;
  value_names = 1;
  parser = Some (Unsigned least most);
  defaults = otherwise ∷ [];
}

-- an option with a number from `least` to `most`, which may be left out
abbrev pub free_number_option : Text → ℕ → ℕ → Rule
free_number_option name least most = record (new_rule name) {
  long = Some name;
  value_names = 1;
  parser = Some (Unsigned least most);
}

-- an option with a text, which may be left out
abbrev pub free_text_option : Text → Rule
free_text_option name = record (new_rule name) { long = Some name; value_names = 1 }

-- an option without a value
abbrev pub flag : Text → Rule
flag name = record (new_rule name) { long = Some name; action = Some SetTrue }

abbrev pub workers : Rule
workers = number_option (codes "workers") 1 MOST_WORKERS (codes "1")

abbrev pub capacity : Rule
capacity = number_option (codes "capacity") 1 MOST_CAPACITY (codes "64")

abbrev pub single : Rule
single = flag (codes "single")

-- the names of the columns above a report
abbrev pub header : Rule
header = flag (codes "header")

-- until when each pair is whole, in the place of the codes; and messages that the horizon makes told as beyond it
abbrev pub reach : Rule
reach = flag (codes "reach")

-- a table that was cut off is refused
abbrev pub whole : Rule
whole = flag (codes "whole")

-- a table beyond the usual limits is taken
abbrev pub large : Rule
large = flag (codes "large")

-- the last period of a release, or in which an open order comes
abbrev pub until : Rule
until = free_number_option (codes "until") 0 LAST_PERIOD

-- the supplier and the customer of delivery schedules
abbrev pub from : Rule
from = free_text_option (codes "from")

abbrev pub to : Rule
to = free_text_option (codes "to")

abbrev pub plant : Rule
plant = wanted (codes "plant")

abbrev pub item : Rule
item = wanted (codes "item")

abbrev pub period : Rule
period = wanted_number (codes "period") 0 LAST_PERIOD

-- `plan [--workers W] [--capacity C] [--single]`
abbrev pub plan_words : App
plan_words = with_rule (with_rule (with_rule (new_app (codes "plan")) workers) capacity) single

-- `check [--reach] [--header]`
abbrev pub check_words : App
check_words = with_rule (with_rule (new_app (codes "check")) reach) header

-- `peg PLANT ITEM PERIOD [--header]`
abbrev pub peg_words : App
peg_words = with_rule (with_rule (with_rule (with_rule (new_app (codes "peg")) plant) item) period) header

-- `cums [--header]`
abbrev pub cums_words : App
cums_words = with_rule (new_app (codes "cums")) header

-- `orders [--until PERIOD] [--header]`
abbrev pub orders_words : App
orders_words = with_rule (with_rule (new_app (codes "orders")) until) header

-- `schedule [--from SUPPLIER] [--to PLANT] [--header]`
abbrev pub schedule_words : App
schedule_words = with_rule (with_rule (with_rule (new_app (codes "schedule")) from) to) header

-- `pegs [--header]`
abbrev pub pegs_words : App
pegs_words = with_rule (new_app (codes "pegs")) header

-- `advice [--until PERIOD] [--reach] [--header]`
abbrev pub advice_words : App
advice_words = with_rule (with_rule (with_rule (new_app (codes "advice")) until) reach) header

-- `shortages [--header]`
abbrev pub shortages_words : App
shortages_words = with_rule (new_app (codes "shortages")) header

-- a program of that name, which has a version and has to be given a subcommand
abbrev pub program_words : Text → App
program_words name =
    record (new_app name) {
      top = record (new_app name).top { has_version = true; subcommand_required = true };
    }

-- the command line with one command more, which has `[--whole] [--large]` too
abbrev pub with_command : App → App → App
with_command line command = with_subcommand line (with_rule (with_rule command whole) large).top

-- the command line up to each command
abbrev pub up_to_check : App
up_to_check = with_command (with_command (program_words (codes "mrp")) plan_words) check_words

abbrev pub up_to_peg : App
up_to_peg = with_command up_to_check peg_words

abbrev pub up_to_cums : App
up_to_cums = with_command up_to_peg cums_words

abbrev pub up_to_orders : App
up_to_orders = with_command up_to_cums orders_words

abbrev pub up_to_schedule : App
up_to_schedule = with_command up_to_orders schedule_words

abbrev pub up_to_pegs : App
up_to_pegs = with_command up_to_schedule pegs_words

abbrev pub up_to_advice : App
up_to_advice = with_command up_to_pegs advice_words

-- the command line
unfoldable pub mrp : App
mrp = with_command up_to_advice shortages_words

-- the argument has this rule, at its own command alone
abbrev pub IsRuled : Rule → Arg → Type 0
IsRuled rule arg = (rule_of arg ≡ rule) × (arg.global ≡ false)

-- the command has the words of `app`, and no argument that its subcommands share
abbrev pub IsWorded : App → Command → Type 0
IsWorded app command = (app_of command ≡ app) × ((out-Command command).has_globals ≡ false)
