use Rattle.std.proofs.Common.{◌≡◌, ◌∙◌, pos, ◌≤ℤ◌, unsigned_abs, ap, sym, subst, refl, FitsSigned, w16, to_z, of_z, arith}
use Rattle.std.proofs.lemmas.Int.{to_z-of_z}
use Rattle.jiff.specs.Types.{Date}
use Rattle.jiff.specs.Words.{epoch_day}
use Rattle.jiff.proofs.SpanFacts.{signed_arith}
use Rattle.mrp_cal.specs.DateText.{IsDateText}
use Rattle.mrp_cal.specs.Days.{date_text}
use Rattle.mrp_cal.proofs.Digits.{year_not_negative, not_negative, text_spells}
use Rattle.mrp_cal.proofs.date_text.text_of_date.Goals as goal

year_kept : (date : Date) → unsigned_abs (to_z w16 (of_z w16 date.year)) ≡ unsigned_abs date.year
year_kept date =
    let fits : FitsSigned w16 date.year = omega (arith, signed_arith, date.year_in) in
    rw to_z-of_z refl

pub returns-clause-bytes : goal.returns-clause-bytes
returns-clause-bytes c =
    let Bytes : Date → Type 0 = λ d. c.ten_bytes.result ≡ date_text (unsigned_abs d.year) d.month d.day in
    let year = c.unsigned_abs.ensures.value ∙ year_kept c.to_plain-date.result in
    subst Bytes c.to_plain-date.ensures (rw (c.ten_bytes.ensures, year) refl)

pub returns-clause-spells : goal.returns-clause-spells
returns-clause-spells c =
    let date = c.to_plain-date.result in
    let Since : Date → Type 0 = λ d. pos 0 ≤ℤ epoch_day d in
    let since = subst Since (sym c.to_plain-date.ensures) c.requires in
    let year : date.year ≡ pos c.unsigned_abs.result =
    not_negative _ (year_not_negative date since) ∙ sym (ap pos (c.unsigned_abs.ensures.value ∙ year_kept date)) in
    let Spells : Date → Type 0 = λ d. IsDateText c.ten_bytes.result d in
    subst Spells c.to_plain-date.ensures (rw c.ten_bytes.ensures (text_spells date _ _ _ year refl refl))
