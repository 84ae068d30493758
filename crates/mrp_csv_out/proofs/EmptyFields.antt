-- CSV output: an empty field of a row is plain too.
use Rattle.std.proofs.Common.{ℕ, List, refl}
use Rattle.std.specs.Prelude.{Option, Some, None}
use Rattle.mrp_csv_out.specs.DateLists.{date_in}
use Rattle.mrp_csv_out.specs.Sheets.{IsPlain}
use Rattle.mrp_csv_out.proofs.PlainFacts.{number_plain}
use Rattle.mrp_csv_out.specs.Fields.{date_if_any, number_if_any}

pub number_field_plain : (number : Option ℕ) → IsPlain (number_if_any number)
number_field_plain None = refl
number_field_plain (Some n) = number_plain n

pub date_field_plain : (dates : List (List ℕ)) → ((t : ℕ) → IsPlain (date_in dates t)) → (period : Option ℕ) → IsPlain (date_if_any dates period)
date_field_plain dates each None = refl
date_field_plain dates each (Some t) = each t
