use Rattle.std.proofs.Common.{◌∙◌, subst, sym, true≢false}
use Rattle.clap.specs.Words.{app_of, subcommand_rows_of}
use Rattle.mrp_command_line.specs.Choice.{IsMeantBy, ReadsTable, texts_of}
use Rattle.mrp_command_line.specs.Values.{IsWholeCommand}
use Rattle.mrp_command_line.proofs.CommandFacts.{its_command, its_kind, no_fault, whole_command}
use Rattle.mrp_command_line.proofs.words.request.Goals as goal

pub asked-request-requires : goal.asked-request-requires
asked-request-requires c =
    let a = app_of c.in-Ok.command in
    let words = texts_of c.args.words.now in
    let is = its_command a words (subcommand_rows_of c.in-Ok-try_get_matches_from.matches) c.in-Ok.ensures c.in-Ok-try_get_matches_from.ensures.matches in
    let whole = whole_command words (no_fault a words c.in-Ok.ensures c.in-Ok-try_get_matches_from.ensures.kinds) in
    subst IsWholeCommand (sym is) whole

pub returns-then-is_within_limits-clause-choice : goal.returns-then-is_within_limits-clause-choice
returns-then-is_within_limits-clause-choice c =
    let is = its_command (app_of c.in-Ok.command) (texts_of c.args.words.now)
    (subcommand_rows_of c.in-Ok-try_get_matches_from.matches) c.in-Ok.ensures c.in-Ok-try_get_matches_from.ensures.matches in
    subst (λ o. IsMeantBy o c.asked-request.result.choice) is c.asked-request.ensures.choice

pub returns-then-is_within_limits-clause-reading : goal.returns-then-is_within_limits-clause-reading
returns-then-is_within_limits-clause-reading c =
    let is = its_command (app_of c.in-Ok.command) (texts_of c.args.words.now)
    (subcommand_rows_of c.in-Ok-try_get_matches_from.matches) c.in-Ok.ensures c.in-Ok-try_get_matches_from.ensures.matches in
    subst (λ o. ReadsTable o c.asked-request.result.reading) is c.asked-request.ensures.reading

pub returns-then-is_within_limits-clause-free : goal.returns-then-is_within_limits-clause-free
returns-then-is_within_limits-clause-free c =
    no_fault (app_of c.in-Ok.command) (texts_of c.args.words.now) c.in-Ok.ensures c.in-Ok-try_get_matches_from.ensures.kinds

pub returns-in-Ok-try_get_matches_from-clause-refused : goal.returns-in-Ok-try_get_matches_from-clause-refused
returns-in-Ok-try_get_matches_from-clause-refused c =
    let is = its_command (app_of c.in-Ok.command) (texts_of c.args.words.now)
    (subcommand_rows_of c.in-Ok-try_get_matches_from.matches) c.in-Ok.ensures c.in-Ok-try_get_matches_from.ensures.matches in (
      no_fault (app_of c.in-Ok.command) (texts_of c.args.words.now) c.in-Ok.ensures c.in-Ok-try_get_matches_from.ensures.kinds,
      (
        c.asked-request.result,
        subst (λ o. IsMeantBy o c.asked-request.result.choice) is c.asked-request.ensures.choice,
        subst (λ o. ReadsTable o c.asked-request.result.reading) is c.asked-request.ensures.reading,
        λ within. true≢false (sym (c.is_within_limits.ensures.1 within) ∙ c.if-is_within_limits.false),
      ),
    )

pub returns-clause-refused : goal.returns-clause-refused
returns-clause-refused c = its_kind (app_of c.in-Ok.command) (texts_of c.args.words.now) c.in-Err.error c.in-Ok.ensures c.in-Err.ensures.kinds
