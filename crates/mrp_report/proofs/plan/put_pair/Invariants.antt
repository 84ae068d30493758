use Rattle.std.proofs.Common.{◌≡◌, ◌≤◌, ◌+◌, ◌*◌, ◌++◌, length, take}
use Rattle.std.specs.List.{flat_map, range_with_len}
use Rattle.mrp_report.specs.Parts.{parts_row}
use Rattle.mrp_csv_out.specs.DateLists.{date_in}
use Rattle.mrp_report.specs.Parts.{period_at}
use Rattle.mrp_report.proofs.plan.put_pair.Given as goal

-- the rows of the periods before t are there, and there is room for those of the rest
abbrev pub invariant-periods : goal.invariant-periods
invariant-periods l = record {
  longest : l.after ≤ l.used + l.t * 164;
  kept : length l.room ≡ length l.initial.room;
  so_far : take l.after l.room ≡ take l.used l.initial.room ++ flat_map (λ t. parts_row l.pair (date_in l.dates t) (period_at l.plan t)) (range_with_len 0 l.t);
}
