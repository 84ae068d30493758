use Rattle.std.specs.Box.{box_value}
use Rattle.clap.specs.Words.{found_of, rows_of}
use Rattle.clap.specs.declared.parser.matches.ArgMatches.TheViews.{out-ArgMatches, out-SubCommand}
use Rattle.mrp_command_line.proofs.CommandFacts.{found_limits, found_reading, read_so}
use Rattle.mrp_command_line.proofs.words.reading.Goals as goal

pub is_given-requires : goal.is_given-requires
is_given-requires c =
    found_reading (out-ArgMatches c.args.matches.now).subcommand (λ b. (out-SubCommand (box_value b)).name.now)
    (λ b. rows_of (found_of (out-SubCommand (box_value b)).matches))
    c.in-Some.field-0-0.now (rows_of (found_of c.in-Some.values.now)) c.in-Some.ensures.name c.in-Some.ensures.rows c.requires

pub limits-requires : goal.limits-requires
limits-requires c =
    found_limits (out-ArgMatches c.args.matches.now).subcommand (λ b. (out-SubCommand (box_value b)).name.now)
    (λ b. rows_of (found_of (out-SubCommand (box_value b)).matches))
    c.in-Some.field-0-0.now (rows_of (found_of c.in-Some.values.now)) c.in-Some.ensures.name c.in-Some.ensures.rows c.requires

pub returns : goal.returns
returns c =
    read_so (out-ArgMatches c.args.matches.now).subcommand (λ b. (out-SubCommand (box_value b)).name.now)
    (λ b. rows_of (found_of (out-SubCommand (box_value b)).matches))
    c.in-Some.field-0-0.now (rows_of (found_of c.in-Some.values.now)) (record { whole = c.is_given.result; limits = c.limits.result })
    c.in-Some.ensures.name c.in-Some.ensures.rows (c.is_given.ensures, c.limits.ensures)
