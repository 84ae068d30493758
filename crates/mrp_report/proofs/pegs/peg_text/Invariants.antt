use Rattle.std.proofs.Common.{◌≡◌, ◌++◌, take}
use Rattle.std.specs.List.{flat_map}
use Rattle.mrp_csv_out.specs.Writing.{IsBetweenRows, written}
use Rattle.mrp_report.specs.Terms.{peg_row}
use Rattle.mrp_report.proofs.pegs.peg_text.Given as goal

-- the rows of the terms before this one are there
abbrev pub invariant-terms : goal.invariant-terms
invariant-terms l = record {
  between : IsBetweenRows l.rows;
  so_far : written l.rows ≡ written l.initial.rows ++ flat_map (peg_row l.network) (take l.term-index l.terms);
}
