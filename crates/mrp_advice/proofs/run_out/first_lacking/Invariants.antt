use Rattle.std.proofs.Common.{◌≡◌, ◌-◌, length}
use Rattle.mrp_advice.specs.Lacking.{IsRunOut}
use Rattle.mrp_advice.proofs.run_out.first_lacking.Given as goal

abbrev pub invariant-periods : goal.invariant-periods
invariant-periods l = record {
  run_out : IsRunOut l.lacks l.run_out;
  pieces : l.run_out.pieces ≡ l.initial.run_out.pieces;
}

abbrev pub decreases-periods : goal.decreases-periods
decreases-periods l = length l.lacks - l.run_out.period
