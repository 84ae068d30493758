-- A valid table written out: the first day of its calendar has one text.
use Rattle.std.proofs.Common.{◌≡◌, ℕ, List, pos}
use Rattle.mrp_cal.specs.Calendar.{CalendarTerms}
use Rattle.mrp_cal.specs.DateText.{SpellsDay}
use Rattle.mrp_cal.specs.Days.{day_text}
use Rattle.mrp_cal.proofs.Written.{day_is_written}

-- the text of a calendar's first day
pub first_text : (text : List ℕ) (c : CalendarTerms) → SpellsDay text (pos c.first) → text ≡ day_text c.first
first_text text c spells = day_is_written text c.first spells
