use Rattle.std.proofs.Common.{◌≡◌}
use Rattle.mrp_csv_out.specs.DateLists.{first_dates}
use Rattle.mrp_csv_out.proofs.dates.date_texts.Given as goal

-- the dates of the periods before t are there
abbrev pub invariant-periods : goal.invariant-periods
invariant-periods l = l.dates.items ≡ first_dates l.calendar l.t
