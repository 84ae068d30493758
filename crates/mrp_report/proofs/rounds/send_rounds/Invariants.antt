use Rattle.std.proofs.Common.{◌≡◌, length, ◌-◌, ◌≤◌}
use Rattle.std.specs.Io.KnownBytes.{Appends}
use Rattle.mrp_report.specs.Parts.{pairs_text}
use Rattle.mrp_report.proofs.rounds.send_rounds.Given as goal

-- the rows of the first pairs are sent
abbrev pub invariant-rounds : goal.invariant-rounds
invariant-rounds g l = record {
  within : l.sent ≤ length l.report.network.now.pairs;
  count : length l.pieces ≡ length l.initial.pieces;
  sent : Appends (g.W.Write.contents l.initial.out) (g.W.Write.contents l.out) (pairs_text l.report.network.now l.report.plan.now 0 l.sent);
}

abbrev pub decreases-rounds : goal.decreases-rounds
decreases-rounds g l = length l.report.network.now.pairs - l.sent
