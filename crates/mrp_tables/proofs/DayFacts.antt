-- The reader of tables: a first day that is given is one row more.
use Rattle.std.proofs.Common.{◌≡◌, ℕ, ◌+◌, List, length, Ok, ap, ◌∙◌}
use Rattle.std.proofs.lemmas.List.{length_push}
use Rattle.mrp_cal.proofs.BegunFacts.{begun-is}
use Rattle.mrp_cal.specs.Begins.{begins}
use Rattle.mrp_cal.specs.Calendar.{CalendarTerms}

pub one_begun : (c : CalendarTerms) (period : ℕ) (text : List ℕ) (d : CalendarTerms) → begins c period text ≡ Ok d
    → length d.begun ≡ length c.begun + 1
one_begun c period text d is =
    let b = begun-is c period text d is in
    ap length b.1.begun ∙ length_push c.begun (record { period = period; day = b.0 })
