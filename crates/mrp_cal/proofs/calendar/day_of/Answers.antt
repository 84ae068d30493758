use Rattle.std.proofs.Common.{◌∙◌}
use Rattle.mrp_cal.proofs.Spelled.{day_spelled-misspelt, day_spelled-number}
use Rattle.mrp_cal.proofs.calendar.day_of.Goals as goal

pub returns-in_err-date_of_text-clause-value : goal.returns-in_err-date_of_text-clause-value
returns-in_err-date_of_text-clause-value c =
    c.from_residual.ensures ∙ day_spelled-misspelt _ _ c.as_bytes.ensures.value (λ date. c.in_err-date_of_text.ensures date)

pub returns-clause-value : goal.returns-clause-value
returns-clause-value c =
    day_spelled-number c.as_bytes.result.now c.args.text.now c.in_ok-date_of_text.field-0 c.day_number.result c.as_bytes.ensures.value
    c.in_ok-date_of_text.ensures c.day_number.ensures.number
