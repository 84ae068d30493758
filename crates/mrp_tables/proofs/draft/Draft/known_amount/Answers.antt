use Rattle.std.proofs.Common.{◌≡◌, Result, Ok, Err, ◌∙◌, ap, sym}
use Rattle.csv.specs.Records.{fields_of}
use Rattle.mrp_cal.specs.Calendar.{CalendarTerms}
use Rattle.mrp_master_data.specs.Table.{horizon}
use Rattle.mrp_validation.specs.Grammar.{AmountTerms, amount_terms}
use Rattle.mrp_tables.specs.Spelled.{terms_of_amount}
use Rattle.mrp_validation.specs.declared.fault.TableFaultKind.{TableFaultKind}
use Rattle.mrp_tables.proofs.AmountFacts.{misspelled, then_known}
use Rattle.mrp_validation.proofs.KeepingSteps.{handed_on}
use Rattle.mrp_tables.proofs.draft.Draft.known_amount.Goals as goal
use Rattle.mrp_tables.proofs.draft.Draft.known_amount.Goals.{In_ok-period}

-- what it spells
terms : (c : In_ok-period)
    → ◌≡◌ {A = Result AmountTerms TableFaultKind} (amount_terms (fields_of c.args.row.now) (horizon c.args.self.now.lists))
    (Ok (terms_of_amount (fields_of c.args.row.now) c.in_ok-period.period c.in_ok-period.quantity))
terms c =
    let periods = c.horizon-horizon.ensures.value ∙ ap (λ (k : CalendarTerms). k.periods) c.calendar.ensures.value in
    sym (c.in_ok-period.ensures.exact ∙ ap (amount_terms (fields_of c.args.row.now)) periods)

pub returns-in_err-period-clause-exact : goal.returns-in_err-period-clause-exact
returns-in_err-period-clause-exact c =
    let row = fields_of c.args.row.now in
    let periods = c.horizon-horizon.ensures.value ∙ ap (λ (k : CalendarTerms). k.periods) c.calendar.ensures.value in
    rw (handed_on c.from_residual.result _ c.from_residual.ensures.1)
    (sym (misspelled c.args.self.now.lists row _ (sym (c.in_err-period.ensures.exact ∙ ap (amount_terms row) periods))))

pub returns-in_err-pair-clause-exact : goal.returns-in_err-pair-clause-exact
returns-in_err-pair-clause-exact c =
    let at = goal.at.returns-in_err-pair-clause-exact c in
    rw (handed_on c.from_residual-in_err-pair.result _ c.from_residual-in_err-pair.ensures.1)
    (sym (then_known c.args.self.now.lists (fields_of c.args.row.now)
    (terms_of_amount (fields_of c.args.row.now) c.in_ok-period.period c.in_ok-period.quantity) (Err _) (terms at.In_ok-period) c.in_err-pair.ensures.exact))

pub returns-clause-exact : goal.returns-clause-exact
returns-clause-exact c =
    let at = goal.at.returns-clause-exact c in
    sym (then_known c.args.self.now.lists (fields_of c.args.row.now)
    (terms_of_amount (fields_of c.args.row.now) c.in_ok-period.period c.in_ok-period.quantity) (Ok c.in_ok-pair.pair) (terms at.In_ok-period)
    c.in_ok-pair.ensures.exact)
