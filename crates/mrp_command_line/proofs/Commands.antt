-- The command line: as clap builds it: a command with one argument more.
use Rattle.std.proofs.Common.{◌≡◌, ◌∙◌, ◌||◌, Bool, false, ap, ap₂}
use Rattle.clap.specs.Words.{App, Rule, app_of, rule_of, with_rule, with_subcommand}
use Rattle.clap.specs.declared.builder.arg.Arg.{Arg}
use Rattle.clap.specs.declared.builder.command.Command.{Command}
use Rattle.clap.specs.declared.builder.command.Command.TheViews.{out-Command}
use Rattle.mrp_command_line.specs.CommandLine.{IsRuled, IsWorded}

pub worded_more : (app : App) (rule : Rule) (old new : Command) (arg : Arg) → IsWorded app old → IsRuled rule arg
    → (arg.global ≡ false → app_of new ≡ with_rule (app_of old) (rule_of arg))
    → (out-Command new).has_globals ≡ ((out-Command old).has_globals || arg.global) → IsWorded (with_rule app rule) new
worded_more app rule old new arg worded ruled shape globals =
    (shape ruled.1 ∙ ap₂ with_rule worded.0 ruled.0, globals ∙ ap₂ (λ (a b : Bool). a || b) worded.1 ruled.1)

-- and with one command more
pub one_more : (app sub : App) (old new more : Command) → app_of old ≡ app → IsWorded sub more
    → ((out-Command more).has_globals ≡ false → app_of new ≡ with_subcommand (app_of old) (app_of more).top)
    → app_of new ≡ with_subcommand app sub.top
one_more app sub old new more started worded shape =
    shape worded.1 ∙ ap₂ with_subcommand started (ap (λ (a : App). a.top) worded.0)
