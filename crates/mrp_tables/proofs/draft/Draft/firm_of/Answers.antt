use Rattle.std.proofs.Common.{ap, sym, ◌∙◌}
use Rattle.csv.specs.Records.{fields_of}
use Rattle.mrp_cal.specs.Calendar.{CalendarTerms}
use Rattle.mrp_validation.specs.Grammar.{firm_terms}
use Rattle.mrp_tables.specs.Spelled.{terms_of_firm}
use Rattle.mrp_tables.proofs.AmountFacts.{firm_of_none}
use Rattle.mrp_validation.proofs.KeepingSteps.{handed_on}
use Rattle.mrp_tables.proofs.draft.Draft.firm_of.Goals as goal

pub returns-in_err-pair-clause-exact : goal.returns-in_err-pair-clause-exact
returns-in_err-pair-clause-exact c =
    let row = fields_of c.args.row.now in
    let periods = c.horizon-horizon.ensures.value ∙ ap (λ (k : CalendarTerms). k.periods) c.calendar.ensures.value in
    rw (handed_on c.from_residual-in_err-pair.result _ c.from_residual-in_err-pair.ensures.1)
    (sym (firm_of_none c.args.self.now.lists row (terms_of_firm row c.in_ok-order.order) _
    (sym (c.in_ok-order.ensures.exact ∙ ap (firm_terms row) periods)) c.in_err-pair.ensures.exact))
