use Rattle.std.proofs.Common.{◌≤◌, length}
use Rattle.mrp_tables.proofs.pieces.behind_last_feed.Given as goal

abbrev pub invariant-bytes : goal.invariant-bytes
invariant-bytes l = l.end ≤ length l.text

abbrev pub decreases-bytes : goal.decreases-bytes
decreases-bytes l = l.end
