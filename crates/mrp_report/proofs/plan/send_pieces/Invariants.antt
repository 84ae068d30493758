use Rattle.std.proofs.Common.{length, ◌-◌, ◌*◌, ◌≤◌}
use Rattle.std.specs.Io.KnownBytes.{Appends}
use Rattle.mrp_report.specs.Parts.{pairs_text}
use Rattle.mrp_report.proofs.plan.send_pieces.Given as goal

-- the rows of the first pairs are sent, and there is room for the next
abbrev pub invariant-pieces : goal.invariant-pieces
invariant-pieces g l = record {
  within : l.sent ≤ length l.report.network.now.pairs;
  room : 16 * (length l.report.dates.now * 164) ≤ length l.room;
  sent : Appends (g.W.Write.contents l.initial.out) (g.W.Write.contents l.out) (pairs_text l.report.network.now l.report.plan.now 0 l.sent);
}

abbrev pub decreases-pieces : goal.decreases-pieces
decreases-pieces g l = length l.report.network.now.pairs - l.sent
